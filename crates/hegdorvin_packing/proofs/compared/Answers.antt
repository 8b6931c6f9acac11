use mathlib.Core.Path.{refl}
use native.Mathlib.Omega.{arith}
use Rattle.hegdorvin_packing.proofs.Laws.{plain_packed}
use Rattle.hegdorvin_packing.proofs.compared.Goals as goal

pub plain-requires-in-Differs : goal.plain-requires-in-Differs
plain-requires-in-Differs c = let f = rw c.in-Differs.is at c.requires in (omega arith, omega arith, (f.plain (λ e. omega arith)).first, omega arith)

pub refusal-requires : goal.refusal-requires
refusal-requires c = rw c.in-Refused.is at c.requires

pub returns-in-Equal : goal.returns-in-Equal
returns-in-Equal c = rw c.in-Equal.is (plain_packed _ _ _ _ _ _ c.plain.ensures refl refl refl refl (λ h. omega arith))

pub returns-in-Differs : goal.returns-in-Differs
returns-in-Differs c = rw c.in-Differs.is (plain_packed _ _ _ _ _ _ c.plain-in-Differs.ensures refl refl refl refl (λ h. omega arith))

pub returns-in-Refused : goal.returns-in-Refused
returns-in-Refused c = rw c.in-Refused.is c.refusal.ensures
