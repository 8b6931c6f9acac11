use mathlib.Core.Path.{refl}
use native.Mathlib.Omega.{arith}
use Rattle.hegdorvin_packing.proofs.Laws.{plain_packed}
use Rattle.hegdorvin_packing.proofs.judged.Goals as goal

pub plain-requires-in-Deviates : goal.plain-requires-in-Deviates
plain-requires-in-Deviates c = let f = rw c.in-Deviates.is at c.requires in (omega arith, omega arith, (f.plain (λ e. omega arith)).first, (f.plain (λ e. omega arith)).second)

pub refusal-requires : goal.refusal-requires
refusal-requires c = rw c.in-Refused.is at c.requires

pub returns-in-Agrees : goal.returns-in-Agrees
returns-in-Agrees c = rw c.in-Agrees.is (plain_packed _ _ _ _ _ _ c.plain.ensures refl refl refl refl (λ h. omega arith))

pub returns-in-Deviates : goal.returns-in-Deviates
returns-in-Deviates c = rw c.in-Deviates.is (plain_packed _ _ _ _ _ _ c.plain-in-Deviates.ensures refl refl refl refl (λ h. omega arith))

pub returns-in-Refused : goal.returns-in-Refused
returns-in-Refused c = rw c.in-Refused.is c.refusal.ensures
