use Rattle.trie_filing.proofs.Firsts.{SiftingAt}
use Rattle.trie_filing.proofs.distinct.find_firsts.Given as goal

abbrev pub invariant-loop-i : goal.invariant-loop-i
invariant-loop-i l = SiftingAt l.bytes l.place l.inputs l.count l.i l.word l.n l.numbers l.places l.marks
