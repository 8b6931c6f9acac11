use Rattle.rules.specs.Reading.{count}
use Rattle.reader_steps.proofs.Laws.{cut, the_byte, count_read_lem}
use Rattle.reader_steps.proofs.steps.count_at.Goals as goal

pub returns-in_err-low : goal.returns-in_err-low
unfolding count
returns-in_err-low c = cut _ _ _ _ _ _ c.from_residual.ensures.1 c.in_err-low.ensures

pub returns-in_err-high : goal.returns-in_err-high
unfolding count
returns-in_err-high c = rw (the_byte _ _ _ _ c.in_ok-low.ensures) (cut _ _ _ _ _ _ c.from_residual-in_err-high.ensures.1 c.in_err-high.ensures)

pub returns : goal.returns
returns c = rw (c.wide.ensures.0, c.wide-2.ensures.0) (count_read_lem _ _ _ _ _ _ c.in_ok-low.ensures c.in_ok-high.ensures)
