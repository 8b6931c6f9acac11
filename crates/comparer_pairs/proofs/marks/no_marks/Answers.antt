use mathlib.Core.Path.{refl}
use Rattle.comparer_pairs.specs.Marks.{unmarked}
use Rattle.comparer_pairs.proofs.marks.no_marks.Goals as goal

pub returns : goal.returns
unfolding unmarked
returns c = refl
