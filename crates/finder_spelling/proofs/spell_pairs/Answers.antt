use Rattle.finder_spelling.proofs.Rows.{rows_begin, rows_room, rows_few, rows_next, rows_end}
use native.Mathlib.Omega.{arith}
use Rattle.finder_spelling.proofs.spell_pairs.Goals as goal

pub loop-p-init : goal.loop-p-init
loop-p-init c = rows_begin c.args.unit.now.bytes.now c.args.unit.now.shape c.args.distances.now c.args.text.now

pub spell_row-place-requires-clause-p_lt_states : goal.spell_row-place-requires-clause-p_lt_states
spell_row-place-requires-clause-p_lt_states c = omega (arith, c.numbered.ensures, c.loop-p-test.true)

pub spell_row-place-requires-clause-p_in_bounds : goal.spell_row-place-requires-clause-p_in_bounds
spell_row-place-requires-clause-p_in_bounds c = rows_room c.args.unit.now.bytes.now c.args.unit.now.shape c.args.distances.now c.args.text.now c.loop-p.p c.loop-p.text c.loop-p.place c.loop-p.count c.loop-p.invariant _ c.loop-p-test.true c.numbered.ensures c.requires.states_in_bounds

pub loop-p-preserved : goal.loop-p-preserved
loop-p-preserved c = rows_next c.args.unit.now.bytes.now c.args.unit.now.shape c.args.distances.now c.args.text.now c.loop-p.p c.loop-p.text c.loop-p.place c.loop-p.count c.loop-p.invariant _ _ _ _ c.loop-p-test.true c.numbered.ensures c.spell_row-place.ensures (omega (arith, c.wide-count.ensures.0))

pub returns : goal.returns
returns c = rows_end c.args.unit.now.bytes.now c.args.unit.now.shape c.args.distances.now c.args.text.now c.loop-p.p c.loop-p.text c.loop-p.place c.loop-p.count c.loop-p.invariant c.loop-p-test.false

pub overflow_add-count : goal.overflow_add-count
overflow_add-count c = omega (arith, c.wide-count.ensures.0, rows_few c.args.unit.now.bytes.now c.args.unit.now.shape c.args.distances.now c.args.text.now c.loop-p.p c.loop-p.text c.loop-p.place c.loop-p.count c.loop-p.invariant c.loop-p-test.true c.args.unit.now.stands.few_states)
