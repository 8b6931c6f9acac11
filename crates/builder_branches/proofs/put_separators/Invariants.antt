use Prim.Native.Nat.{ℕ}
use mathlib.Core.Path.{◌≡◌}
use Rattle.trie.specs.Model.{Trie, size}
use Rattle.trie.specs.Holds.{Holds}
use Rattle.builder_branches.proofs.Branching.{Putting}
use Rattle.builder_branches.proofs.put_separators.Given as goal

abbrev pub invariant-loop-e : goal.invariant-loop-e
invariant-loop-e l = (k : ℕ) (t : Trie) → Holds t l.initial.label l.initial.first l.initial.next → l.nodes ≡ size t → Putting k l.bytes l.places l.n t l.node l.e l.label l.first l.next l.count
