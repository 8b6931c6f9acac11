-- Pairs of a golden state and a unit state as numbers below 4,096, and what an input does at a pair.
use Rattle.std.specs.Prelude.{ℕ, ◌+◌, ◌*◌, ◌≤◌, ◌<◌, ◌/◌, ◌%◌, ◌≡◌, Option, Some, None, cond, eqb}
use Rattle.rules.specs.Sizes.{most_inputs, most_states}
use Rattle.rules.specs.Machines.{Machine}

-- how many pairs there are
abbrev pub pairs : ℕ
pairs = 4096

abbrev pub pair_of : ℕ → ℕ → ℕ
pair_of g u = g * most_states + u

abbrev pub golden_of : ℕ → ℕ
golden_of p = p / most_states

abbrev pub unit_of : ℕ → ℕ
unit_of p = p % most_states

-- what the golden and the unit answer at a pair to an input
abbrev pub golden_says : Machine → ℕ → ℕ → ℕ
golden_says G p i = G.output (golden_of p) i

abbrev pub unit_says : Machine → ℕ → ℕ → ℕ
unit_says U p i = U.output (unit_of p) i

-- the pair that an input leads to
unfoldable pub next_pair : Machine → Machine → ℕ → ℕ → ℕ
next_pair G U p i = pair_of (G.next (golden_of p) i) (U.next (unit_of p) i)

-- what is seen of an input at a pair: the next pair, or none where the outputs differ
unfoldable pub look_at : Machine → Machine → ℕ → ℕ → Option ℕ
look_at G U p i = cond (eqb (golden_says G p i) (unit_says U p i)) (Some (next_pair G U p i)) None

-- what the sizes of two machines have to be, so that they can be compared: k and k' inputs, n and u states
pub record Comparable (k k' n u : ℕ) : Type 0 where
  pub same_inputs : k ≡ k'
  pub few_inputs : k ≤ most_inputs
  pub few_states : n ≤ most_states
  pub few_units : u ≤ most_states

-- a pair of states of two machines of n and u states
abbrev pub Pair : ℕ → ℕ → ℕ → Type 0
Pair n u p = (golden_of p < n) × (unit_of p < u)
