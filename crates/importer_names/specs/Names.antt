-- A table of names: the name number j stands from the place 16 j on, and its length in a second table.
use Rattle.std.specs.Prelude.{ℕ, ◌*◌, ◌≤◌, ◌<◌, ◌≡◌, List, [], false, length, get_or, take, drop, Option, None, Some}
use Rattle.rules.specs.Sizes.{most_states}
use Rattle.rules.specs.Words.{is_in}
use Rattle.rules.specs.Kiss2.{Field, place_in}
use Rattle.theory.specs.Kiss2Lines.{with_name}

abbrev pub name_at : List ℕ → List ℕ → ℕ → Field
name_at names lengths j = take (get_or lengths j 0) (drop (j * 16) names)

-- there is room for names, and the name number j has at most 16 bytes
pub record SlotIn (names lengths : List ℕ) (j : ℕ) : Type 0 where
  pub room : length names ≡ 1024
  pub table : length lengths ≡ most_states
  pub below : j < most_states
  pub short : get_or lengths j 0 ≤ 16

-- the first n names have
pub record SlotsIn (names lengths : List ℕ) (n : ℕ) : Type 0 where
  pub room : length names ≡ 1024
  pub table : length lengths ≡ most_states
  pub few : n ≤ most_states
  pub short : (j : ℕ) → j < n → get_or lengths j 0 ≤ 16

-- the first names of the table are those of the list
pub record NamesAt (names lengths : List ℕ) (l : List Field) : Type 0 where
  pub slots_in : SlotsIn names lengths (length l)
  pub stand : (j : ℕ) → j < length l → name_at names lengths j ≡ get_or l j []

-- what the name n came to, where the names were l
abbrev pub NamingOf : List Field → Field → List ℕ → List ℕ → Option (ℕ × ℕ) → Type 0
NamingOf l n names lengths None = (length l ≡ most_states) × (is_in n l ≡ false)
NamingOf l n names lengths (Some (j, m)) =
    NamesAt names lengths (with_name l n) × (j ≡ place_in (with_name l n) n) × (m ≡ length (with_name l n)) × (j < m) × SlotsIn names lengths m

pub record NamedAs (l : List Field) (n : Field) (names lengths : List ℕ) (r : Option (ℕ × ℕ)) : Type 0 where
  pub told : NamingOf l n names lengths r
