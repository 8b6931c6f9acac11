use mathlib.Core.Path.{refl}
use Rattle.comparer_pairs.specs.Marks.{with_mark}
use Rattle.comparer_pairs.proofs.marks.meet.Goals as goal

pub returns : goal.returns
unfolding with_mark
returns c = refl
