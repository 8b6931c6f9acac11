use Prim.Native.Nat.{◌<◌}
use Rattle.trie.specs.Model.{Trie, size}
use Rattle.trie.specs.Holds.{Holds}
use Rattle.trie.proofs.Chain.{Along}
use Rattle.trie.proofs.child.Given as goal

abbrev pub invariant-loop-j : goal.invariant-loop-j
invariant-loop-j l = (t : Trie) → Holds t l.nodes.label.now l.nodes.first.now l.nodes.next.now → l.p < size t → Along t l.p l.wanted l.j

abbrev pub decreases-loop-j : goal.decreases-loop-j
decreases-loop-j l = l.j
