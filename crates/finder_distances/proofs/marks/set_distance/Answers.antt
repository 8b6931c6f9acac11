use Rattle.finder_distances.specs.Marks.{with_mark}
use Rattle.finder_distances.proofs.marks.set_distance.Goals as goal

pub returns : goal.returns
unfolding with_mark
returns c = rw (c.place_of-place.ensures.0, c.place_of-mirrored.ensures.0)
