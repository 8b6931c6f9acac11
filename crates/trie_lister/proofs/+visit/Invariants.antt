use Prim.Native.Nat.{◌≤◌, ◌-◌, ◌+◌}
use mathlib.Core.Path.{◌≡◌}
use lib.ListN.{length, take}
use Rattle.trie.specs.Model.{Trie, size}
use Rattle.trie.specs.Holds.{Holds}
use Rattle.trie_lister.proofs.Writes.{Written}
use Prim.Native.Nat.{ℕ, ◌<◌}
use Rattle.trie_lister.proofs.+visit.Given as goal

abbrev pub decreases-visit : goal.decreases-visit
decreases-visit l = length l.nodes.label.now - l.node

abbrev pub invariant-loop-a : goal.invariant-loop-a
invariant-loop-a l = (l.pos ≤ length l.out) × (take l.depth l.path ≡ take l.depth l.initial.path) × ((s : Trie) → Holds s l.nodes.label.now l.nodes.first.now l.nodes.next.now → l.node < size s → (d : ℕ) → size s ≤ l.node + d → Written s l.k d l.node (take l.depth l.initial.path) l.initial.out l.at l.a l.pos l.out)
