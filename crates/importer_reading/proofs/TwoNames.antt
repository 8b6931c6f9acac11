-- Laws of the two names of a term.
use Prim.Native.Nat.{ℕ, suc, ◌+◌, ◌≤◌, ◌<◌}
use native.Mathlib.Omega.{arith}
use mathlib.Core.Path.{◌≡◌, sym, ap, ◌∙◌}
use mathlib.Core.Logic.{inl, inr}
use mathlib.Core.List.{List, [], ◌∷◌, ◌++◌}
use mathlib.Core.Bool.{false}
use lib.ListN.{length, length-append}
use Rattle.rules.specs.Sizes.{most_states}
use Rattle.rules.specs.Words.{same, is_in}
use Rattle.rules.specs.Kiss2.{Field, place_in}
use Rattle.theory.specs.Lists.{outcome}
use Rattle.theory.specs.Kiss2Lines.{with_name}
use Rattle.std.specs.Prelude.{Option, None, Some}
use Rattle.importer_names.specs.Names.{SlotsIn, NamesAt, NamingOf, NamedAs}
use Rattle.importer_reading.specs.Both.{SomeNames, BothAs}

pub some_slots : {names lengths : List ℕ} {count : ℕ} → SomeNames names lengths count → SlotsIn names lengths count
some_slots v = rw v.many at v.at.slots_in

-- a list with a name is not shorter
pub with_longer : (l : List Field) (n : Field) → length l ≤ length (with_name l n)
with_longer l n = elim (outcome (is_in n l)) [ inl known ↦ rw known (omega arith) | inr new ↦ rw new (omega (arith, length-append l (n ∷ []))) ]

-- and the place of a name that stands in it stays
place_append : (l : List Field) (n : Field) (w : Field) → place_in l w < length l → place_in (l ++ (n ∷ [])) w ≡ place_in l w
place_append [] n w less = absurd (omega arith)
place_append (v ∷ l) n w less =
    elim (outcome (same v w)) [
      | inl this ↦ rw this
      | inr other ↦
          let e : place_in (v ∷ l) w ≡ suc (place_in l w) = rw other in
          rw other (ap suc (place_append l n w (omega arith)))
    ]

place_with : (l : List Field) (n w : Field) → place_in l w < length l → place_in (with_name l n) w ≡ place_in l w
place_with l n w less = elim (outcome (is_in n l)) [ inl known ↦ rw known | inr new ↦ rw new (place_append l n w less) ]

full_more : (l : List Field) (n : Field) → length l ≡ most_states → is_in n l ≡ false → length (with_name l n) ≡ most_states + 1
full_more l n full new = rw new (length-append l (n ∷ []) ∙ omega arith)

module _ (l : List Field) (current next : Field) (names lengths : List ℕ) (a : Option (ℕ × ℕ)) (named : NamedAs l current names lengths a) where
  pub first_full : a ≡ None → (names' lengths' : List ℕ) → BothAs l current next names' lengths' None
  first_full is names' lengths' =
      let told : NamingOf l current names lengths None = rw is at named.told in
      record { told = omega (arith, full_more l current told.0 told.1, with_longer (with_name l current) next) }

  module _ (one more : ℕ) (at : a ≡ Some (one, more)) where
    first_told : NamingOf l current names lengths (Some (one, more))
    first_told = rw at at named.told

    pub first_names : NamesAt names lengths (with_name l current)
    first_names = first_told.0

    pub first_many : length (with_name l current) ≡ more
    first_many = sym first_told.2

    pub first_slots : SlotsIn names lengths more
    first_slots = first_told.4

    module _ (names' lengths' : List ℕ) (b : Option (ℕ × ℕ)) (named' : NamedAs (with_name l current) next names' lengths' b) where
      pub second_full : b ≡ None → BothAs l current next names' lengths' None
      second_full is =
          let told : NamingOf (with_name l current) next names' lengths' None = rw is at named'.told in
          record { told = omega (arith, full_more (with_name l current) next told.0 told.1) }

      pub both_named : (other all : ℕ) → b ≡ Some (other, all) → BothAs l current next names' lengths' (Some (one, other, all))
      both_named other all is =
          let told : NamingOf (with_name l current) next names' lengths' (Some (other, all)) = rw is at named'.told in
          let inside : place_in (with_name l current) current < length (with_name l current) = omega (arith, first_told.1, first_told.2, first_told.3) in
          record {
            told = (
              told.0,
              first_told.1 ∙ sym (place_with (with_name l current) next current inside),
              told.1,
              told.2,
              omega (arith, first_told.3, first_told.4.few),
              omega (arith, told.3, told.4.few),
            );
          }
