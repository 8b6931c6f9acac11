use mathlib.Core.Path.{refl}
use Rattle.comparer_pairs.specs.Marks.{met}
use Rattle.comparer_pairs.proofs.marks.is_met.Goals as goal

pub returns : goal.returns
unfolding met
returns c = refl
