use mathlib.Core.Path.{◌∙◌}
use Rattle.finder_access.specs.Queue.{input_at, step_at}
use Rattle.finder_access.proofs.queue.input_at.Goals as goal

pub returns : goal.returns
unfolding input_at step_at
returns c = c.numbered.ensures ∙ rw c.wide_link.ensures
