-- The queue of the states that have been met: for each of them the step by which it was met, which is an entry of the queue and an
-- input as one number.
use Rattle.std.specs.Prelude.{ℕ, ◌+◌, ◌*◌, ◌<◌, ◌/◌, ◌%◌, ◌≡◌, List, [], ◌∷◌, ◌++◌, Bool, not, eqb, length, get_or, replicate}
use Rattle.rules.specs.Sizes.{most_inputs, most_states}
use Rattle.rules.specs.Words.{Word}

abbrev pub entry_of : ℕ → ℕ → ℕ
entry_of step q = step * most_states + q

unfoldable pub state_at : List ℕ → ℕ → ℕ
state_at queue j = get_or queue j 0 % most_states

unfoldable pub step_at : List ℕ → ℕ → ℕ
step_at queue j = get_or queue j 0 / most_states

unfoldable pub parent_at : List ℕ → ℕ → ℕ
parent_at queue j = step_at queue j / most_inputs

unfoldable pub input_at : List ℕ → ℕ → ℕ
input_at queue j = step_at queue j % most_inputs

-- each of the first n entries but the start was met from an earlier one
pub record Falls (queue : List ℕ) (n : ℕ) : Type 0 where
  pub earlier : (j : ℕ) → 0 < j → j < n → parent_at queue j < j

-- `word` gives the word by which each of them was met
pub record Spelt (queue : List ℕ) (n : ℕ) (word : ℕ → Word) : Type 0 where
  pub falls : Falls queue n
  pub start : word 0 ≡ []
  pub step : (j : ℕ) → 0 < j → j < n → word j ≡ word (parent_at queue j) ++ (input_at queue j ∷ [])

-- an entry was met by a word, and it has n inputs
pub record Depth (queue : List ℕ) (j n : ℕ) : Type 0 where
  pub word : ℕ → Word
  pub spelt : Spelt queue (j + 1) word
  pub long : (word : ℕ → Word) → Spelt queue (j + 1) word → n ≡ length (word j)

-- each state's place in the queue, counted from 1, and 0 for a state that has not been met: whether a state has been met
unfoldable pub has_place : List ℕ → ℕ → Bool
has_place places q = not (eqb (get_or places q 0) 0)

-- none has been met
unfoldable pub unplaced : List ℕ
unplaced = replicate most_states 0
