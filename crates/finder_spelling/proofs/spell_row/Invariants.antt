use Rattle.finder_spelling.proofs.Rows.{InRow}
use Prim.Native.Nat.{◌<◌}
use Rattle.finder_spelling.proofs.spell_row.Given as goal

abbrev pub invariant-loop-q : goal.invariant-loop-q
invariant-loop-q l = InRow l.unit.bytes.now l.unit.shape l.distances l.p.0 l.initial.text l.at l.q l.text l.place × (l.p.0 < l.q)
