use Prim.Native.Nat.{◌-◌}
use Rattle.theory.specs.Wrote.{Writing}
use Rattle.importer_unit.specs.Held.{held_bytes}
use Rattle.importer_unit.proofs.writing.write_table.Given as goal

abbrev pub invariant-loop-q : goal.invariant-loop-q
invariant-loop-q l = Writing l.initial.out l.at (held_bytes l.nexts l.outputs l.ranks l.numbers l.inputs 0 l.states) l.out l.next (held_bytes l.nexts l.outputs l.ranks l.numbers l.inputs l.q (l.states - l.q))
