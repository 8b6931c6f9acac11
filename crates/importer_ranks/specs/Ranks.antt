-- The numbers of the states as a table holds them, and the order in which the lines so far give them.
use Rattle.std.specs.Prelude.{ℕ, suc, ◌≤◌, ◌≡◌, List, ◌++◌, map, cond, length, get_or, replicate}
use Rattle.rules.specs.Lists.{◌∈◌}
use Rattle.rules.specs.Sizes.{most_states}
use Rattle.rules.specs.Words.{is_in}
use Rattle.rules.specs.Needed.{distinct}
use Rattle.rules.specs.Kiss2.{Field, Says, resets_in, terms_in, place_in}

-- a table in which no name has a number
unfoldable pub unranked : List ℕ
unranked = replicate most_states 0

-- what the table holds of a name
abbrev pub rank_in : List Field → Field → ℕ
rank_in order n = cond (is_in n order) (suc (place_in order n)) 0

-- the states that have a number from the lines so far, in the order of their numbers: the reset state and the current states
abbrev pub order_of : List Says → List Field
order_of said = distinct (resets_in said ++ map (λ t. t.current) (terms_in said))

-- the table holds the numbers that the names of `order` have by their places there
pub record RanksAt (ranks : List ℕ) (names order : List Field) : Type 0 where
  pub table : length ranks ≡ most_states
  pub few : length names ≤ most_states
  pub ranked : (n : Field) → n ∈ names → get_or ranks (place_in names n) 0 ≡ rank_in order n
  -- the numbers that no name has yet have no rank
  pub unused : (j : ℕ) → length names ≤ j → get_or ranks j 0 ≡ 0
  pub inside : (n : Field) → n ∈ order → n ∈ names
  -- each has one number
  pub once : distinct order ≡ order
