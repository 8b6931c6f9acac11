use mathlib.Core.Path.{refl}
use native.Mathlib.Omega.{arith}
use Rattle.hegdorvin_packing.proofs.Laws.{plain_packed}
use Rattle.hegdorvin_packing.proofs.checked.Goals as goal

pub refusal-requires : goal.refusal-requires
refusal-requires c = rw c.in-Refused.is at c.requires

pub returns-in-Accepted : goal.returns-in-Accepted
returns-in-Accepted c = rw c.in-Accepted.is (plain_packed _ _ _ _ _ _ c.plain.ensures refl refl refl refl (λ h. omega arith))

pub returns-in-Refused : goal.returns-in-Refused
returns-in-Refused c = rw c.in-Refused.is c.refusal.ensures
