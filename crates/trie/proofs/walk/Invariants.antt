use mathlib.Core.Path.{◌≡◌}
use Prim.Native.Nat.{◌<◌}
use lib.ListN.{drop}
use Rattle.trie.specs.Model.{Trie, size, walk_from}
use Rattle.trie.specs.Holds.{Holds}
use Rattle.trie.proofs.walk.Given as goal

abbrev pub invariant-loop-a : goal.invariant-loop-a
invariant-loop-a l = (t : Trie) → Holds t l.nodes.label.now l.nodes.first.now l.nodes.next.now → l.p < size t → (l.node < size t) × (walk_from t l.p l.w ≡ walk_from t l.node (drop l.a-index l.w))
