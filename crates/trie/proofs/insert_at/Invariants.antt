use mathlib.Core.Path.{◌≡◌}
use Rattle.trie.specs.Model.{Trie, size}
use Rattle.trie.specs.Holds.{Holds}
use Rattle.trie.proofs.Steps.{Inserting}
use Rattle.trie.proofs.insert_at.Given as goal

abbrev pub invariant-loop-a : goal.invariant-loop-a
invariant-loop-a l = (t : Trie) → Holds t l.initial.label l.initial.first l.initial.next → l.count ≡ size t → Inserting t l.p l.w l.a-index l.node l.m l.label l.first l.next
