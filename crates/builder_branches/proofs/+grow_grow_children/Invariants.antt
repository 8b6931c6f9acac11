use Prim.Native.Nat.{suc, ◌+◌}
use mathlib.Core.Path.{◌≡◌}
use Rattle.trie.specs.Model.{Trie, size}
use Rattle.trie.specs.Holds.{Holds}
use Rattle.builder_branches.specs.Growing.{Separator, Done}
use Rattle.builder_branches.proofs.Branching.{Turning}
use Rattle.builder_branches.proofs.+grow_grow_children.Given as goal

abbrev pub decreases-grow : goal.decreases-grow
decreases-grow l = suc (l.left + l.left)

abbrev pub decreases-grow_children : goal.decreases-grow_children
decreases-grow_children l = l.left + l.left

abbrev pub invariant-grow_children-loop-a : goal.invariant-grow_children-loop-a
invariant-grow_children-loop-a l = (t : Trie) → Holds t l.initial.label l.initial.first l.initial.next → l.nodes ≡ size t → Done l.inputs (Separator l.bytes l.places l.n) t l.initial.done → Turning l.inputs (Separator l.bytes l.places l.n) t l.node l.left l.a l.label l.first l.next l.done l.count
