use native.Mathlib.Omega.{arith}
use Rattle.builder.proofs.Promised.{buildable, refused_promise}
use Rattle.builder.proofs.answer.build.Goals as goal

pub build_sound-requires : goal.build_sound-requires
build_sound-requires c = buildable _ _ c.read_sound.ensures _ c.in-Ok.is (λ i. omega (arith, c.type_inv.dossier i))

pub returns-in-Err : goal.returns-in-Err
returns-in-Err c = refused_promise _ _ c.read_sound.ensures _ c.in-Err.is _
