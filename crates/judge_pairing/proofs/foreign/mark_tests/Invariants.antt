use Prim.Native.Nat.{◌-◌}
use Rattle.reader.specs.Places.{words_at, WordsAt}
use Rattle.trie.specs.Model.{Trie}
use Rattle.trie.specs.Holds.{Holds}
use Rattle.judge_pairing.specs.Marked.{Marking}
use Rattle.judge_pairing.proofs.foreign.mark_tests.Given as goal

abbrev pub invariant-loop : goal.invariant-loop
invariant-loop l = WordsAt l.dossier l.word l.inputs (l.count - l.counter) × ((t : Trie) → Holds t l.nodes.label.now l.nodes.first.now l.nodes.next.now → Marking t (words_at l.dossier l.place l.count) (words_at l.dossier l.word (l.count - l.counter)) l.marks)
