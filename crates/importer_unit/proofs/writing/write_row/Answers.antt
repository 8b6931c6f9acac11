use native.Mathlib.Omega.{arith}
use mathlib.Core.Path.{ap, ◌∙◌}
use Rattle.theory.specs.Wrote.{writing_start, writing_end}
use Rattle.importer_terms.specs.Entries.{entry_place}
use Rattle.importer_unit.proofs.Holding.{row_long, row_start, row_end, row_room, row_again}
use Rattle.importer_unit.proofs.writing.write_row.Goals as goal

pub loop-i-init : goal.loop-i-init
loop-i-init c = rw (← (row_start c.args.nexts.now c.args.outputs.now c.args.ranks.now c.args.current c.args.inputs)) (writing_start _ _ _)

pub overflow_cast-i : goal.overflow_cast-i
overflow_cast-i c = omega (arith, c.loop-i-test.true, c.requires.tables.1.few)

pub entry_place-place-requires : goal.entry_place-place-requires
entry_place-place-requires c = (c.requires.tables.1.name, omega (arith, c.numbered.ensures, c.loop-i-test.true, c.requires.tables.1.few))

pub write_entry-next-requires-clause-tables : goal.write_entry-next-requires-clause-tables
write_entry-next-requires-clause-tables c = (c.requires.tables.0, rw (c.entry_place-place.ensures.0, c.numbered.ensures) (c.requires.tables.1.there _ c.loop-i-test.true))

pub write_entry-next-requires-clause-at_in_bounds : goal.write_entry-next-requires-clause-at_in_bounds
write_entry-next-requires-clause-at_in_bounds c = row_room c.args.nexts.now c.args.outputs.now c.args.ranks.now c.args.current c.args.inputs c.loop-i.i c.loop-i-test.true _ _ _ _ _ c.loop-i.invariant (omega (arith, row_long c.args.nexts.now c.args.outputs.now c.args.ranks.now c.args.current c.args.inputs 0 c.args.inputs, c.requires.inputs_in_bounds))

pub loop-i-preserved : goal.loop-i-preserved
loop-i-preserved c = row_again c.args.nexts.now c.args.outputs.now c.args.ranks.now c.args.current c.args.inputs c.loop-i.i c.loop-i-test.true _ _ _ _ _ c.loop-i.invariant _ (c.entry_place-place.ensures.0 ∙ ap (λ i. entry_place c.args.current i) c.numbered.ensures) c.write_entry-next.ensures

pub returns : goal.returns
returns c = writing_end _ _ _ _ _ _ c.loop-i.invariant (row_end c.args.nexts.now c.args.outputs.now c.args.ranks.now c.args.current c.args.inputs c.loop-i.i c.loop-i-test.false)
