use Rattle.finder_distances.specs.Marks.{mark_of}
use Rattle.finder_distances.proofs.marks.distance_at.Goals as goal

pub returns : goal.returns
unfolding mark_of
returns c = rw c.place_of-place.ensures.0
