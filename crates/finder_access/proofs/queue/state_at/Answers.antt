use mathlib.Core.Path.{◌∙◌}
use Rattle.finder_access.specs.Queue.{state_at}
use Rattle.finder_access.proofs.queue.state_at.Goals as goal

pub returns : goal.returns
unfolding state_at
returns c = c.numbered.ensures ∙ rw c.wide_link.ensures
