use native.Mathlib.Omega.{arith}
use Rattle.importer_says.proofs.Values.{reading_start, digit_at, number_small, reading_next, reading_end}
use Rattle.importer_says.proofs.fields.value_of.Goals as goal

pub loop-digit-init : goal.loop-digit-init
loop-digit-init c = reading_start _ c.requires.0 c.requires.1

pub overflow_mul-number : goal.overflow_mul-number
overflow_mul-number c = omega (arith, number_small _ _ _ c.loop-digit.invariant c.loop-digit-test.true)

pub overflow_sub-digit : goal.overflow_sub-digit
overflow_sub-digit c = (digit_at _ _ _ c.loop-digit.invariant c.loop-digit-test.true).0

pub overflow_add-number : goal.overflow_add-number
overflow_add-number c = omega (arith, number_small _ _ _ c.loop-digit.invariant c.loop-digit-test.true, c.wide.ensures.1)

pub loop-digit-preserved : goal.loop-digit-preserved
loop-digit-preserved c = reading_next _ _ _ c.loop-digit.invariant c.loop-digit-test.true _ c.wide.ensures.0

pub returns : goal.returns
returns c = reading_end _ _ _ c.loop-digit.invariant c.loop-digit-test.false
