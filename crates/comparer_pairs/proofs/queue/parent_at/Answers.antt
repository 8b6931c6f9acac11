use Rattle.comparer_pairs.specs.Queue.{parent_at, step_at}
use Rattle.comparer_pairs.proofs.queue.parent_at.Goals as goal

pub returns : goal.returns
unfolding parent_at step_at
returns c = rw c.wide_entry.ensures
