use Prim.Native.Nat.{ℕ, ◌+◌, ◌-◌, ◌≤◌, ◌<◌}
use mathlib.Core.Path.{◌≡◌}
use lib.ListN.{length}
use Rattle.rules.specs.Words.{Word}
use Rattle.trie.specs.Model.{Trie, size}
use Rattle.trie.specs.Holds.{Holds}
use Rattle.trie_lister.proofs.Measures.{Measuring}
use Rattle.trie_lister.proofs.+measure.Given as goal

abbrev pub decreases-measure : goal.decreases-measure
decreases-measure l = length l.nodes.label.now - l.node

abbrev pub invariant-loop-a : goal.invariant-loop-a
invariant-loop-a l = (l.n ≤ l.pos) × (l.pos ≤ l.room) × ((s : Trie) → Holds s l.nodes.label.now l.nodes.first.now l.nodes.next.now → l.node < size s → (d : ℕ) → size s ≤ l.node + d → (u : Word) → length u ≡ l.depth → Measuring s l.k d l.node u l.words l.at l.room l.a l.n l.pos)
