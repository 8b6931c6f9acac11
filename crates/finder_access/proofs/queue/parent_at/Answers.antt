use Rattle.finder_access.specs.Queue.{parent_at, step_at}
use Rattle.finder_access.proofs.queue.parent_at.Goals as goal

pub returns : goal.returns
unfolding parent_at step_at
returns c = rw c.wide_link.ensures
