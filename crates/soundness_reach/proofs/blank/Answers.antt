use mathlib.Core.Path.{refl}
use Rattle.soundness_reach.specs.Reached.{unmarked}
use Rattle.soundness_reach.proofs.blank.Goals as goal

pub returns : goal.returns
unfolding unmarked
returns c = refl
