use Rattle.importer_terms.proofs.Differing.{NoneAgainst}
use Rattle.importer_terms.proofs.contradictions.contradicts.Given as goal

abbrev pub invariant-loop-i : goal.invariant-loop-i
invariant-loop-i l = NoneAgainst l.text l.term l.nexts l.outputs l.i
