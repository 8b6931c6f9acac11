use mathlib.Core.Path.{refl}
use native.Mathlib.Omega.{arith}
use Rattle.hegdorvin_packing.proofs.Laws.{plain_packed}
use Rattle.hegdorvin_packing.proofs.part.Goals as goal

pub plain-requires : goal.plain-requires
plain-requires c = let f = c.requires.plain (λ e. omega arith) in (omega arith, omega arith, omega (arith, f.first, f.second), omega (arith, f.first, f.second))

pub returns : goal.returns
returns c = plain_packed _ _ _ _ _ _ c.plain.ensures refl refl refl refl (λ h. omega arith)
