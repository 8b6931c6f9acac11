use Rattle.importer_unit.proofs.Silences.{RowFull}
use Rattle.importer_unit.proofs.silence.empty_in_row.Given as goal

abbrev pub invariant-loop-i : goal.invariant-loop-i
invariant-loop-i l = RowFull l.nexts l.current l.i
