use Rattle.finder_distances.specs.Marks.{unmarked}
use mathlib.Core.Path.{refl}
use Rattle.finder_distances.proofs.marks.no_distances.Goals as goal

pub returns : goal.returns
unfolding unmarked
returns c = refl
