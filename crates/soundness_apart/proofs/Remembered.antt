-- Laws of the places of separating words that are known to tell some pair apart.
use Prim.Native.Nat.{ℕ, ◌+◌, ◌<◌}
use native.Mathlib.Omega.{arith}
use native.Mathlib.Decide.{ℕ_discrete}
use mathlib.Core.Path.{◌≡◌, sym}
use mathlib.Core.Logic.{inl, inr}
use mathlib.Core.List.{List}
use mathlib.Core.Bool.{Bool, false}
use lib.ListN.{length, set, length-set}
use lib.Seq.{get_or-set_same, get_or-set_other}
use Rattle.rules.specs.Words.{Word}
use Rattle.rules.specs.Machines.{Machine}
use Rattle.reader.specs.declared.DossierShape.{DossierShape}
use Rattle.reader.specs.Places.{word_at}
use Rattle.theory.specs.Lists.{outcome, clash, all_true}
use Rattle.soundness_apart.specs.declared.Known.{Known}
use Rattle.soundness_apart.specs.Separating.{golden_at, separators_at, alike_on, alike, SeparatorAt, KnownAt}

-- one place more
pub remembered : (s : List ℕ) (x : DossierShape) (known : Known) (place : ℕ) → known.count < 64 → KnownAt s x known → SeparatorAt s x place
    → KnownAt s x (record { places = set known.places known.count place; count = known.count + 1 })
remembered s x known place room at new =
    record {
      few = omega arith;
      size = simp length-set at.size;
      separators = λ j h.
          elim (ℕ_discrete j known.count) [
            | yes e ↦ rw (e, get_or-set_same known.places known.count place 0 (omega (arith, at.size))) new
            | no ne ↦ rw (get_or-set_other known.places known.count j place 0 ne) (at.separators j (omega arith))
          ];
    }

-- a separating word on which two states differ tells them apart
pub told_apart : (s : List ℕ) (x : DossierShape) (p q place : ℕ) → SeparatorAt s x place → alike_on (golden_at s x) p q (word_at s place) ≡ false
    → alike (golden_at s x) (separators_at s x) p q ≡ false
told_apart s x p q place at e =
    elim (outcome (alike (golden_at s x) (separators_at s x) p q)) [
      | inl same ↦ clash (all_true (alike_on (golden_at s x) p q) same at.member) e
      | inr other ↦ other
    ]

-- what was seen of two states, by their numbers
pub seen_is : (M : Machine) (ws : List Word) (p q q' : ℕ) (b seen : Bool) → seen ≡ alike M ws p q' → q' ≡ q → seen ≡ b → alike M ws p q ≡ b
seen_is M ws p q q' b seen e is_q is = rw (← is_q, ← e) is

-- nothing is known at first
pub none_known : (s : List ℕ) (x : DossierShape) (places : List ℕ) → 64 ≡ length places → KnownAt s x (record { places = places; count = 0 })
none_known s x places e = record { few = omega arith; size = sym e; separators = λ j h. absurd (omega arith) }
