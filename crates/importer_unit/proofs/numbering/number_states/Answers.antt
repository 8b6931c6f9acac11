use mathlib.Core.Path.{refl}
use native.Mathlib.Omega.{arith}
use Rattle.importer_unit.proofs.Inverse.{inverting_start, inverting_next, inverting_end}
use Rattle.importer_unit.proofs.numbering.number_states.Goals as goal

pub loop-j-init : goal.loop-j-init
loop-j-init c = inverting_start _

pub overflow_cast-numbers : goal.overflow_cast-numbers
overflow_cast-numbers c = omega (arith, c.loop-j-test.true, c.requires.few)

pub bounds-ranks-j : goal.bounds-ranks-j
bounds-ranks-j c = omega (arith, c.loop-j-test.true, c.requires.few, c.requires.room)

pub overflow_sub-ranks : goal.overflow_sub-ranks
overflow_sub-ranks c = c.requires.some_rank _ c.loop-j-test.true

pub bounds-numbers-wide : goal.bounds-numbers-wide
bounds-numbers-wide c = omega (arith, c.wide.ensures.0, c.requires.low _ c.loop-j-test.true, c.requires.some_rank _ c.loop-j-test.true, c.loop-j.invariant.room)

pub loop-j-preserved : goal.loop-j-preserved
loop-j-preserved c = inverting_next _ _ c.requires _ _ c.loop-j.invariant c.loop-j-test.true _ _ c.wide.ensures.0 refl

pub returns : goal.returns
returns c = λ names order is ranking. inverting_end _ _ c.requires _ _ c.loop-j.invariant (omega (arith, c.loop-j-test.false)) names order is ranking
