use Rattle.importer_unit.proofs.Inverse.{Inverting}
use Rattle.importer_unit.proofs.numbering.number_states.Given as goal

abbrev pub invariant-loop-j : goal.invariant-loop-j
invariant-loop-j l = Inverting l.ranks l.numbers l.j
