use mathlib.Core.Path.{refl}
use native.Mathlib.Omega.{arith}
use Rattle.hegdorvin_packing.proofs.Laws.{plain_packed}
use Rattle.hegdorvin_packing.proofs.costed.Goals as goal

pub plain-requires : goal.plain-requires
plain-requires c = let f = rw c.in-Cost.is at c.requires in (omega arith, omega arith, (f.plain (λ e. omega arith)).first, (f.plain (λ e. omega arith)).second)

pub refusal-requires : goal.refusal-requires
refusal-requires c = rw c.in-Refused.is at c.requires

pub returns-in-Cost : goal.returns-in-Cost
returns-in-Cost c = rw c.in-Cost.is (plain_packed _ _ _ _ _ _ c.plain.ensures refl refl refl refl (λ h. omega arith))

pub returns-in-Refused : goal.returns-in-Refused
returns-in-Refused c = rw c.in-Refused.is c.refusal.ensures
