use Prim.Native.Nat.{◌≤◌}
use mathlib.Core.Path.{◌≡◌}
use lib.ListN.{length}
use Rattle.rules.specs.Operations.{overwritten}
use Rattle.comparer_pairs.specs.Queue.{word_to}
use Rattle.comparer.proofs.spelling.write_word.Given as goal

abbrev pub invariant-loop-at : goal.invariant-loop-at
invariant-loop-at l = (l.at ≤ l.place) × (l.left ≡ length (word_to l.queue l.at)) × (l.left ≤ length l.out) × (length l.out ≡ length l.initial.out) × (overwritten (word_to l.queue l.at) l.out ≡ overwritten (word_to l.queue l.place) l.initial.out)

abbrev pub decreases-loop-at : goal.decreases-loop-at
decreases-loop-at l = l.at
