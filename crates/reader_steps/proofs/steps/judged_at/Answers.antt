use Rattle.std.proofs.Common.{arith}
use Rattle.rules.specs.Reading.{judged}
use Rattle.reader_steps.proofs.Laws.{cut, the_byte}
use Rattle.reader_steps.proofs.steps.judged_at.Goals as goal

pub returns-in_err-b : goal.returns-in_err-b
unfolding judged
returns-in_err-b g c test gives = cut _ _ _ _ _ _ c.from_residual.ensures.1 c.in_err-b.ensures

pub returns-then-good : goal.returns-then-good
unfolding judged
returns-then-good g c test gives = rw (the_byte _ _ _ _ c.in_ok-b.ensures, ← (gives _ _ (omega arith) c.if-good.ensures))

pub returns : goal.returns
unfolding judged
returns g c test gives = rw (the_byte _ _ _ _ c.in_ok-b.ensures, ← (gives _ _ (omega arith) c.if-good.ensures))
