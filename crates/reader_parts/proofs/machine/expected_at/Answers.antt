use Rattle.rules.specs.Reading.{judged}
use Rattle.reader_steps.proofs.Laws.{cut}
use Rattle.reader_parts.proofs.Parts.{count_good, count_bad}
use Rattle.reader_parts.proofs.machine.expected_at.Goals as goal

pub returns-in_err-count : goal.returns-in_err-count
unfolding judged
returns-in_err-count c = cut _ _ _ _ _ _ c.from_residual.ensures.1 c.in_err-count.ensures

pub returns-then-count-expected : goal.returns-then-count-expected
returns-then-count-expected c = count_good _ _ _ _ _ _ c.in_ok-count.ensures c.if-count-expected.true

pub returns-else-count-expected : goal.returns-else-count-expected
returns-else-count-expected c = count_bad _ _ _ _ _ _ c.in_ok-count.ensures c.if-count-expected.false
