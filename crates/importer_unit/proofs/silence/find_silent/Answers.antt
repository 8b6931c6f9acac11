use native.Mathlib.Omega.{arith}
use Rattle.importer_unit.proofs.Silences.{rows_start, rows_next, name_low, silent_none, silent_here}
use Rattle.importer_unit.proofs.silence.find_silent.Goals as goal

pub loop-q-init : goal.loop-q-init
loop-q-init c = rows_start _ _ _ _ (omega arith)

pub bounds-numbers-q : goal.bounds-numbers-q
bounds-numbers-q c = omega (arith, c.loop-q-test.true, c.requires.1.few, c.requires.1.room)

pub empty_in_row-requires : goal.empty_in_row-requires
empty_in_row-requires c = (c.requires.0, name_low c.requires.1 _ _ c.wide.ensures.0 (omega (arith, c.loop-q-test.true)), c.requires.2)

pub overflow_cast-q : goal.overflow_cast-q
overflow_cast-q c = omega (arith, c.requires.1.few)

pub returns-in-Some : goal.returns-in-Some
returns-in-Some c = λ names order terms outputs ranks at numbered all. silent_here _ _ _ names order terms outputs ranks at numbered _ all c.requires.2 _ c.loop-q.invariant (omega (arith, c.loop-q-test.true)) _ _ _ c.wide.ensures.0 (omega arith) c.in-Some.ensures _ (omega (arith, c.numbered.ensures))

pub loop-q-preserved : goal.loop-q-preserved
loop-q-preserved c = rows_next _ _ _ _ c.loop-q.invariant _ _ c.wide.ensures.0 (omega arith) (rw c.in_default.is at c.empty_in_row.ensures) _ (omega arith)

pub returns : goal.returns
returns c = λ names order terms outputs ranks at numbered all. silent_none _ _ _ names order terms outputs ranks at numbered _ all c.requires.2 _ c.loop-q.invariant (omega (arith, c.loop-q-test.false))
