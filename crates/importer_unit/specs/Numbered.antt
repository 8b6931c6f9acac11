-- The states by the numbers of their names, and by their own.
use Rattle.std.specs.Prelude.{ℕ, suc, ◌≤◌, ◌<◌, ◌≡◌, List, [], length, get_or}
use Rattle.rules.specs.Lists.{◌∈◌}
use Rattle.rules.specs.Sizes.{most_states}
use Rattle.rules.specs.Kiss2.{Field, place_in}

-- each of so many names has a rank
pub record RanksIn (ranks : List ℕ) (count : ℕ) : Type 0 where
  pub room : length ranks ≡ most_states
  pub few : count ≤ most_states
  pub some_rank : (j : ℕ) → j < count → 1 ≤ get_or ranks j 0
  pub low : (j : ℕ) → j < count → get_or ranks j 0 ≤ most_states

-- each of so many states has a name's number
pub record NumbersIn (numbers : List ℕ) (states : ℕ) : Type 0 where
  pub room : length numbers ≡ most_states
  pub few : states ≤ most_states
  pub low : (q : ℕ) → q < states → get_or numbers q 0 < most_states

-- No name stands twice in a list: each stands at its first place.
abbrev pub Once : List Field → Type 0
Once l = (j : ℕ) → j < length l → place_in l (get_or l j []) ≡ j

-- `names` are the states' names as they were met, and `order` has the same in the order of the states' numbers. A name's rank is one
-- more than its state's number.
pub record Ranking (ranks : List ℕ) (names order : List Field) : Type 0 where
  pub named : (n : Field) → n ∈ order → n ∈ names
  pub ordered : (n : Field) → n ∈ names → n ∈ order
  pub names_once : Once names
  pub order_once : Once order
  pub few : length order ≤ most_states
  pub ranked : (n : Field) → n ∈ names → get_or ranks (place_in names n) 0 ≡ suc (place_in order n)

-- `numbers` leads back: it has the name's number of each state.
pub record NumberedAt (ranks numbers : List ℕ) (names order : List Field) : Type 0 where
  pub lengths : (length ranks ≡ most_states) × (length numbers ≡ most_states)
  pub few : length order ≤ most_states
  pub ranked : (n : Field) → n ∈ names → get_or ranks (place_in names n) 0 ≡ suc (place_in order n)
  pub inverse : (q : ℕ) → q < length order → (get_or order q [] ∈ names) × (get_or numbers q 0 ≡ place_in names (get_or order q []))
  pub in_range : (q : ℕ) → q < length order → get_or numbers q 0 < most_states
