use mathlib.Core.Path.{refl}
use native.Mathlib.Omega.{arith}
use Rattle.hegdorvin_packing.proofs.Laws.{plain_packed}
use Rattle.hegdorvin_packing.proofs.imported.Goals as goal

pub plain-requires : goal.plain-requires
plain-requires c = let f = rw c.in-Written.is at c.requires in (omega arith, omega arith, (f.plain (λ e. omega arith)).first, omega arith)

pub refusal-requires : goal.refusal-requires
refusal-requires c = rw c.in-Refused.is at c.requires

pub returns-in-Written : goal.returns-in-Written
returns-in-Written c = rw c.in-Written.is (plain_packed _ _ _ _ _ _ c.plain.ensures refl refl refl refl (λ h. omega arith))

pub returns-in-Refused : goal.returns-in-Refused
returns-in-Refused c = rw c.in-Refused.is c.refusal.ensures
