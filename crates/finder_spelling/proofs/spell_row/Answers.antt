use Rattle.finder_spelling.proofs.Rows.{row_start, row_room, row_next, row_end}
use native.Mathlib.Omega.{arith}
use Rattle.finder_spelling.proofs.spell_row.Goals as goal

pub loop-q-init : goal.loop-q-init
loop-q-init c = (row_start c.args.unit.now.bytes.now c.args.unit.now.shape c.args.distances.now c.args.p.0 c.args.at _ c.args.text.now c.number-q.ensures, omega (arith, c.number-q.ensures))

pub spell_pair-place-requires-clause-p_lt_states : goal.spell_pair-place-requires-clause-p_lt_states
spell_pair-place-requires-clause-p_lt_states c = (c.requires.p_lt_states, omega (arith, c.numbered-other.ensures, c.loop-q-test.true))

pub spell_pair-place-requires-clause-q_in_bounds : goal.spell_pair-place-requires-clause-q_in_bounds
spell_pair-place-requires-clause-q_in_bounds c = row_room c.args.unit.now.bytes.now c.args.unit.now.shape c.args.distances.now c.args.p.0 c.args.text.now c.args.at c.loop-q.q c.loop-q.text c.loop-q.place c.loop-q.invariant.0 _ c.loop-q-test.true c.numbered-other.ensures c.requires.p_in_bounds

pub loop-q-preserved : goal.loop-q-preserved
loop-q-preserved c = (row_next c.args.unit.now.bytes.now c.args.unit.now.shape c.args.distances.now c.args.p.0 c.args.text.now c.args.at c.loop-q.q c.loop-q.text c.loop-q.place c.loop-q.invariant.0 _ _ _ c.loop-q-test.true c.numbered-other.ensures c.spell_pair-place.ensures, omega (arith, c.loop-q.invariant.1))

pub returns : goal.returns
returns c = row_end c.args.unit.now.bytes.now c.args.unit.now.shape c.args.distances.now c.args.p.0 c.args.text.now c.args.at c.loop-q.q c.loop-q.text c.loop-q.place c.loop-q.invariant.0 c.loop-q-test.false
