-- What the search over the states of a unit has done (document 02, L1), with the queue and the places that it holds.
use Rattle.std.specs.Prelude.{ℕ, zero, suc, ◌+◌, ◌-◌, ◌≤◌, ◌<◌, ◌≡◌, ◌≢◌, List, length, get_or, set}
use Rattle.rules.specs.Sizes.{most_states}
use Rattle.rules.specs.Lists.{numbers, keep}
use Rattle.rules.specs.Words.{Word}
use Rattle.rules.specs.Files.{UnitData, unit}
use Rattle.theory.specs.Breadth.{Searched}
use Rattle.finder_access.specs.Queue.{entry_of, state_at, Spelt, has_place}

-- each state's place in the queue, counted from 1, and 0 for a state that is not among the first n entries
pub record Placed (queue places : List ℕ) (n : ℕ) : Type 0 where
  pub inside : (q : ℕ) → q < most_states → get_or places q 0 ≤ n
  pub met : (q : ℕ) → q < most_states → 0 < get_or places q 0 → state_at queue (get_or places q 0 - 1) ≡ q
  pub unmet : (q : ℕ) → q < most_states → get_or places q 0 ≡ 0 → (j : ℕ) → j < n → state_at queue j ≢ q

-- all steps before `step` have been taken, and `tail` states have been met
pub record Searching (u : UnitData) (queue places : List ℕ) (step tail : ℕ) : Type 0 where
  pub room : length queue ≡ most_states
  pub table : length places ≡ most_states
  pub few : tail ≤ u.states
  pub counted : tail ≡ length (keep (has_place places) (numbers u.states))
  pub word : ℕ → Word
  pub spelt : Spelt queue tail word
  pub placed : Placed queue places tail
  pub searched : Searched u.inputs (unit u) (state_at queue) word step tail

-- a state that was met already, which has a place, is passed over; another one is queued behind the others
abbrev pub PutOf : ℕ → List ℕ → List ℕ → ℕ → ℕ → ℕ → List ℕ → List ℕ → ℕ → Type 0
PutOf (suc place) queue places tail q step queue' places' r = (queue' ≡ queue) × (places' ≡ places) × (r ≡ tail)
PutOf zero queue places tail q step queue' places' r =
    (queue' ≡ set queue tail (entry_of step q)) × (places' ≡ set places q (tail + 1)) × (r ≡ tail + 1)
