-- What the two names of a term come to.
use Rattle.std.specs.Prelude.{ℕ, ◌<◌, ◌≡◌, List, length, Option, None, Some}
use Rattle.rules.specs.Sizes.{most_states}
use Rattle.rules.specs.Kiss2.{Field, place_in}
use Rattle.theory.specs.Kiss2Lines.{with_name}
use Rattle.importer_names.specs.Names.{NamesAt}

-- some names, which are `count`
pub record SomeNames (names lengths : List ℕ) (count : ℕ) : Type 0 where
  pub list : List Field
  pub at : NamesAt names lengths list
  pub many : length list ≡ count

-- the names with both
abbrev pub with_both : List Field → Field → Field → List Field
with_both l current next = with_name (with_name l current) next

abbrev pub BothOf : List Field → Field → Field → List ℕ → List ℕ → Option (ℕ × ℕ × ℕ) → Type 0
BothOf l current next names lengths None = most_states < length (with_both l current next)
BothOf l current next names lengths (Some (one, other, all)) =
    NamesAt names lengths (with_both l current next) × (one ≡ place_in (with_both l current next) current) × (other ≡ place_in (with_both l current next) next)
    × (all ≡ length (with_both l current next)) × (one < most_states) × (other < most_states)

pub record BothAs (l : List Field) (current next : Field) (names lengths : List ℕ) (r : Option (ℕ × ℕ × ℕ)) : Type 0 where
  pub told : BothOf l current next names lengths r
