use Rattle.trie_filing.proofs.Filling.{FillingAt}
use Rattle.trie_filing.proofs.fill.put_words.Given as goal

abbrev pub invariant-loop : goal.invariant-loop
invariant-loop l = FillingAt l.bytes l.place l.inputs l.count l.counter l.word l.label l.first l.next l.nodes
