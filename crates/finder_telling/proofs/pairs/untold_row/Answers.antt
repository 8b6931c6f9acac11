use Rattle.finder_telling.proofs.Lowest.{row_start, row_end, told_next, row_found}
use native.Mathlib.Omega.{arith}
use Rattle.finder_telling.proofs.pairs.untold_row.Goals as goal

pub loop-q-init : goal.loop-q-init
loop-q-init c = (row_start c.args.states c.args.distances.now c.requires.p_lt_states.1 c.args.p.0 _ c.number-q.ensures c.requires.told_before, omega (arith, c.number-q.ensures))

pub returns-then-distance_at-eq0 : goal.returns-then-distance_at-eq0
returns-then-distance_at-eq0 c = row_found c.args.states c.args.distances.now c.requires.p_lt_states.1 c.args.p _ c.loop-q.q _ c.loop-q.invariant.1 c.loop-q-test.true c.numbered-other.ensures c.distance_at.ensures (omega (arith, c.if-distance_at-eq0.true)) c.loop-q.invariant.0

pub loop-q-preserved : goal.loop-q-preserved
loop-q-preserved c = (told_next c.args.states c.args.distances.now c.requires.p_lt_states.1 c.args.p.0 c.loop-q.q _ _ c.loop-q.invariant.1 c.loop-q-test.true c.numbered-other.ensures c.distance_at.ensures c.if-distance_at-eq0.false c.loop-q.invariant.0, omega (arith, c.loop-q.invariant.1))

pub returns : goal.returns
returns c = row_end c.args.states c.args.distances.now c.requires.p_lt_states.1 c.args.p.0 c.loop-q.q c.loop-q-test.false c.loop-q.invariant.0
