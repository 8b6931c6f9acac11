use native.Mathlib.Omega.{arith}
use Rattle.theory.specs.Wrote.{writing_start, writing_end}
use Rattle.importer_unit.proofs.Holding.{row_of, held_long, held_start, held_end, held_room, held_again}
use Rattle.importer_unit.proofs.writing.write_table.Goals as goal

pub loop-q-init : goal.loop-q-init
loop-q-init c = rw (← (held_start c.args.nexts.now c.args.outputs.now c.args.ranks.now c.args.numbers.now c.args.inputs c.args.states)) (writing_start _ _ _)

pub bounds-numbers-q : goal.bounds-numbers-q
bounds-numbers-q c = omega (arith, c.loop-q-test.true, c.requires.tables.1.numbers_in.few, c.requires.tables.1.numbers_in.room, c.requires.tables.0.ranks_room)

pub write_row-next-requires-clause-tables : goal.write_row-next-requires-clause-tables
write_row-next-requires-clause-tables c = (c.requires.tables.0, row_of _ _ _ _ _ c.requires.tables.1 _ c.loop-q-test.true _ (omega (arith, c.wide.ensures.0)))

pub write_row-next-requires-clause-inputs_in_bounds : goal.write_row-next-requires-clause-inputs_in_bounds
write_row-next-requires-clause-inputs_in_bounds c = held_room c.args.nexts.now c.args.outputs.now c.args.ranks.now c.args.numbers.now c.args.inputs c.args.states c.loop-q.q c.loop-q-test.true _ _ _ _ _ c.loop-q.invariant (omega (arith, held_long c.args.nexts.now c.args.outputs.now c.args.ranks.now c.args.numbers.now c.args.inputs c.args.states 0 c.args.states, c.requires.inputs_in_bounds))

pub loop-q-preserved : goal.loop-q-preserved
loop-q-preserved c = held_again c.args.nexts.now c.args.outputs.now c.args.ranks.now c.args.numbers.now c.args.inputs c.args.states c.loop-q.q c.loop-q-test.true _ _ _ _ _ c.loop-q.invariant _ (omega (arith, c.wide.ensures.0)) c.write_row-next.ensures

pub returns : goal.returns
returns c = writing_end _ _ _ _ _ _ c.loop-q.invariant (held_end c.args.nexts.now c.args.outputs.now c.args.ranks.now c.args.numbers.now c.args.inputs c.args.states c.loop-q.q c.loop-q-test.false)
