use Rattle.finder_telling.proofs.Lowest.{none_before, none_found, row_at, row_nowhere}
use native.Mathlib.Omega.{arith}
use Rattle.finder_telling.proofs.pairs.lowest_untold.Goals as goal

pub loop-p-init : goal.loop-p-init
loop-p-init c = none_before c.args.states c.args.distances.now

pub untold_row-requires-clause-p_lt_states : goal.untold_row-requires-clause-p_lt_states
untold_row-requires-clause-p_lt_states c = (omega (arith, c.numbered.ensures, c.loop-p-test.true), c.requires.states_le_most_states)

pub untold_row-requires-clause-told_before : goal.untold_row-requires-clause-told_before
untold_row-requires-clause-told_before c = rw c.numbered.ensures c.loop-p.invariant

pub returns-in-Some : goal.returns-in-Some
returns-in-Some c = row_at c.args.states c.args.distances.now _ c.untold_row.result _ _ c.untold_row.ensures c.in-Some.is

pub loop-p-preserved : goal.loop-p-preserved
loop-p-preserved c = row_nowhere c.args.states c.args.distances.now _ c.loop-p.p _ c.numbered.ensures c.untold_row.ensures c.in_default.is

pub returns : goal.returns
returns c = none_found c.args.states c.args.distances.now c.requires.states_le_most_states c.loop-p.p c.loop-p-test.false c.loop-p.invariant
