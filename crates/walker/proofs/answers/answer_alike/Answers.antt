use Rattle.std.proofs.Common.{arith}
use Rattle.std.proofs.lemmas.Grind.{common_steps}
use Rattle.walker.proofs.Steps.{differ_none}
use Rattle.walker.proofs.answers.answer_alike.Goals as goal

pub returns : goal.returns
returns g c = rw (← differ_none _ _) (rw (← c.difference.ensures) (grind (arith, common_steps)))
