use Prim.Native.Nat.{ℕ, ◌+◌, ◌≤◌}
use mathlib.Core.Path.{◌≡◌}
use lib.ListN.{length}
use lib.Seq.{sets}
use Rattle.rules.specs.Words.{Word}
use Rattle.finder_access.specs.Queue.{Spelt}
use Rattle.finder_access.proofs.spelling.write_word.Given as goal

abbrev pub invariant-loop-at : goal.invariant-loop-at
invariant-loop-at l = (l.at ≤ l.place) × (length l.out ≡ length l.initial.out) × ((word : ℕ → Word) → Spelt l.queue (l.place + 1) word → (l.n + length (word l.at) ≡ l.len) × (sets l.out l.start (word l.at) ≡ sets l.initial.out l.start (word l.place)))

abbrev pub decreases-loop-at : goal.decreases-loop-at
decreases-loop-at l = l.at
