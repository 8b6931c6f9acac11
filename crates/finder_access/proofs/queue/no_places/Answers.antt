use Rattle.finder_access.specs.Queue.{unplaced}
use mathlib.Core.Path.{refl}
use Rattle.finder_access.proofs.queue.no_places.Goals as goal

pub returns : goal.returns
unfolding unplaced
returns c = refl
