use Rattle.importer_terms.proofs.Entering.{Putting}
use Rattle.importer_terms.proofs.entries.put_term.Given as goal

abbrev pub invariant-loop-i : goal.invariant-loop-i
invariant-loop-i l = Putting l.text l.term l.initial.nexts l.initial.outputs l.i l.nexts l.outputs
