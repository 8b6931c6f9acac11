use Prim.Native.Nat.{ℕ, ◌+◌, ◌≤◌}
use mathlib.Core.Path.{◌≡◌}
use lib.ListN.{length}
use Rattle.rules.specs.Words.{Word}
use Rattle.finder_access.specs.Queue.{Spelt}
use Rattle.finder_access.proofs.spelling.word_length.Given as goal

abbrev pub invariant-loop-at : goal.invariant-loop-at
invariant-loop-at l = (l.at ≤ l.place) × (l.n + l.at ≤ l.place) × ((word : ℕ → Word) → Spelt l.queue (l.place + 1) word → l.n + length (word l.at) ≡ length (word l.place))

abbrev pub decreases-loop-at : goal.decreases-loop-at
decreases-loop-at l = l.at
