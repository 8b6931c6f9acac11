-- An outcome is a result or a refusal, never both; and reading a file refuses with 1 to 6 of that file only.
use Rattle.std.specs.Prelude.{ℕ, ◌≡◌, refl, ◌⊎◌, List, ltb, length}
use Rattle.std.proofs.Common.{arith, sym, inl, inr}
use Rattle.rules.specs.declared.File.{File}
use Rattle.rules.specs.declared.Fault.{Fault}
use Rattle.rules.specs.declared.Fault.TheVariants.{TooLong}
use Rattle.rules.specs.declared.Refusal.{Refusal}
use Rattle.rules.specs.declared.Refusal.TheVariants.{Malformed}
use Rattle.rules.specs.Reading.{Got, got, faulty, Reader}
use Rattle.rules.specs.Operations.{Outcome, fine, refuse, opened, read_file}
use Rattle.theory.specs.Lists.{outcome}

pub settled : {A : Type 0} (o : Outcome A) → ((a : A) × (o ≡ fine a)) ⊎ ((r : Refusal) × (o ≡ refuse r))
settled (fine a) = inl (a, refl)
settled (refuse r) = inr (r, refl)

pub fine_injective : {A : Type 0} {a b : A} → ◌≡◌ {A = Outcome A} (fine a) (fine b) → a ≡ b
fine_injective e = cc

pub refuse_injective : {A : Type 0} {r s : Refusal} → ◌≡◌ {A = Outcome A} (refuse r) (refuse s) → r ≡ s
refuse_injective e = cc

pub fine_not_refuse : {A B : Type 0} {a : A} {r : Refusal} → ◌≡◌ {A = Outcome A} (fine a) (refuse r) → B
fine_not_refuse e = let z : ◌≡◌ {A = ℕ} 0 1 = cc in absurd (omega arith)

-- What a statement says of an outcome holds of what the outcome is.
abbrev pub Settles : {A : Type 0} → (A → Type 0) → (Refusal → Type 0) → Outcome A → Type 0
Settles good bad (fine a) = good a
Settles good bad (refuse r) = bad r

opened_refuses : {A : Type 0} (f : File) (g : Got A) (r : Refusal) → opened f g ≡ refuse r → (fault : Fault) × (p : ℕ) × (r ≡ Malformed fault f p)
opened_refuses f (got a p l) r e = fine_not_refuse e
opened_refuses f (faulty fault p) r e = (fault, p, sym (refuse_injective e))

pub read_refuses : {A : Type 0} (f : File) (most : ℕ) (read : Reader A) (bytes : List ℕ) (r : Refusal) → read_file f most read bytes ≡ refuse r
    → (fault : Fault) × (p : ℕ) × (r ≡ Malformed fault f p)
unfolding read_file
read_refuses f most read bytes r e =
    elim (outcome (ltb most (length bytes))) [
      | inl long ↦ (TooLong, 0, sym (refuse_injective (rw long at e)))
      | inr short ↦ opened_refuses f (read 0 bytes) r (rw short at e)
    ]
