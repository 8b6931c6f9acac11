use native.Mathlib.Omega.{arith}
use borrow.Author.Tests.{not-true, not-false}
use Rattle.importer_terms.proofs.Bits.{fitting_start, fitting_next, fitting_stops, fitting_end, too_wide}
use Rattle.std.proofs.Common.{ap}
use Rattle.std.specs.Prelude.{not}
use Rattle.importer_terms.proofs.cubes.cube_has.Goals as goal

pub overflow_sub-end : goal.overflow_sub-end
overflow_sub-end c = omega (arith, c.requires.field_in.some_byte)

pub weight-requires : goal.weight-requires
weight-requires c = c.requires.short

pub returns-then-weight-number : goal.returns-then-weight-number
returns-then-weight-number c = rw c.number-number.ensures at (too_wide c.args.text.now _ _ c.requires.field_in.some_byte c.requires.field_in.inside c.number-number.result c.requires.is_cube (omega (arith, c.weight.ensures, c.if-weight-number.true)))

pub loop-at-init : goal.loop-at-init
loop-at-init c = fitting_start c.args.text.now _ _ c.requires.field_in.some_byte c.requires.field_in.inside _

pub bit_of-requires : goal.bit_of-requires
bit_of-requires c = omega (arith, c.loop-at-test.true, c.loop-at.invariant.low, c.requires.short)

pub fits-requires : goal.fits-requires
fits-requires c = c.bit_of.ensures.1

pub returns-then-not-fits : goal.returns-then-not-fits
returns-then-not-fits c = rw c.number-number.ensures at (fitting_stops c.args.text.now _ _ c.requires.field_in.some_byte c.requires.field_in.inside _ _ c.loop-at.invariant c.loop-at-test.true _ _ c.bit_of.ensures.0 (omega arith) _ c.fits.ensures c.requires.is_cube (not-true _ (ap not c.if-not-fits.true)))

pub loop-at-preserved : goal.loop-at-preserved
loop-at-preserved c = fitting_next c.args.text.now _ _ c.requires.field_in.some_byte c.requires.field_in.inside _ _ c.loop-at.invariant c.loop-at-test.true _ _ c.bit_of.ensures.0 (omega arith) _ c.fits.ensures (not-false _ (ap not c.if-not-fits.false))

pub returns : goal.returns
returns c = rw c.number-number.ensures at (fitting_end c.args.text.now _ _ c.requires.field_in.some_byte c.requires.field_in.inside c.number-number.result c.requires.is_cube (omega (arith, c.weight.ensures, c.if-weight-number.false)) _ c.loop-at.invariant c.loop-at-test.false)
