use native.Mathlib.Omega.{arith}
use Rattle.builder_copyist.proofs.Fitted.{at_root, fits_counted, measured_over, fitting}
use Rattle.builder_copyist.proofs.Promised.{over_promise, no_room_promise, written_promise}
use Rattle.builder_copyist.proofs.build_planted.Goals as goal

pub measure-requires : goal.measure-requires
measure-requires c = (at_root c.requires, omega arith, omega (arith, c.requires.dossier.lent.stands.tests_inside, c.requires.dossier.lent.stands.size))

pub returns-then-out-size : goal.returns-then-out-size
returns-then-out-size c = let (count, size, small) = fits_counted c.requires _ c.measure.ensures _ _ c.in-Some.is in
    no_room_promise c.requires.dossier _ _ size small (omega (arith, c.if-out-size.true))

pub write_built-requires : goal.write_built-requires
write_built-requires c = fitting c.requires _ c.measure.ensures _ _ _ c.in-Some.is (omega (arith, c.if-out-size.false))

pub returns : goal.returns
returns c = let (count, size, small) = fits_counted c.requires _ c.measure.ensures _ _ c.in-Some.is in
    written_promise c.requires.dossier _ _ size small (omega (arith, c.if-out-size.false)) _ c.write_built.ensures

pub returns-in_default : goal.returns-in_default
returns-in_default c = over_promise c.requires.dossier _ (measured_over c.requires _ c.measure.ensures c.in_default.is)
