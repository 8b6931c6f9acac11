use Rattle.std.proofs.Common.{rules, sym, subst}
use Rattle.std.specs.Io.KnownBytes.{Consumes}
use Rattle.std.proofs.KnownBytes.{Consumes-trans}
use Rattle.files.proofs.Filling.{take-filled}
use Rattle.files.proofs.read_full.Goals as goal

-- what was read before and what is read now, one behind the other
pub loop-done-preserved : goal.loop-done-preserved
loop-done-preserved g c =
    let read = c.in-Ok.ensures in
    let (within, before) = c.loop-done.invariant in
    let joined = take-filled _ _ _ _ _ within read.bound.0 in
    (search rules, subst (Consumes _ _) (sym joined) (Consumes-trans _ _ _ _ _ before read.bytes.0))
