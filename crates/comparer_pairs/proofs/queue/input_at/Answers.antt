use mathlib.Core.Path.{◌∙◌}
use Rattle.comparer_pairs.specs.Queue.{input_at, step_at}
use Rattle.comparer_pairs.proofs.queue.input_at.Goals as goal

pub returns : goal.returns
unfolding input_at step_at
returns c = c.numbered.ensures ∙ rw c.wide_entry.ensures
