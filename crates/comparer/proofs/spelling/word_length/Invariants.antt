use Prim.Native.Nat.{◌+◌, ◌≤◌}
use mathlib.Core.Path.{◌≡◌}
use lib.ListN.{length}
use Rattle.comparer_pairs.specs.Queue.{word_to}
use Rattle.comparer.proofs.spelling.word_length.Given as goal

abbrev pub invariant-loop-at : goal.invariant-loop-at
invariant-loop-at l = (l.at ≤ l.place) × (l.n + length (word_to l.queue l.at) ≡ length (word_to l.queue l.place))

abbrev pub decreases-loop-at : goal.decreases-loop-at
decreases-loop-at l = l.at
