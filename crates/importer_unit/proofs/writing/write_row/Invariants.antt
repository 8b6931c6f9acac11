use Prim.Native.Nat.{◌-◌}
use Rattle.theory.specs.Wrote.{Writing}
use Rattle.importer_unit.specs.Held.{row_bytes}
use Rattle.importer_unit.proofs.writing.write_row.Given as goal

abbrev pub invariant-loop-i : goal.invariant-loop-i
invariant-loop-i l = Writing l.initial.out l.at (row_bytes l.nexts l.outputs l.ranks l.current 0 l.inputs) l.out l.next (row_bytes l.nexts l.outputs l.ranks l.current l.i (l.inputs - l.i))
