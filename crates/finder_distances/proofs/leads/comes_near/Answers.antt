use Rattle.finder_distances.specs.Leads.{nears}
use Rattle.finder_distances.proofs.leads.comes_near.Goals as goal

pub returns : goal.returns
unfolding nears
returns c = rw c.next_distance.ensures
