use Rattle.importer_unit.proofs.Silences.{RowsFull}
use Rattle.importer_unit.proofs.silence.find_silent.Given as goal

abbrev pub invariant-loop-q : goal.invariant-loop-q
invariant-loop-q l = RowsFull l.nexts l.numbers l.inputs l.q
