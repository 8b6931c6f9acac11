-- Document 01, "What the bureau will hold": Mealy machines. State 0 is the state after reset.
use Rattle.std.specs.Prelude.{ℕ, ◌+◌, ◌*◌, ◌<◌, List, [], ◌∷◌, get_or}
use Rattle.rules.specs.Words.{Word}

pub record Machine : Type 0 where
  pub states : ℕ
  pub next : ℕ → ℕ → ℕ
  pub output : ℕ → ℕ → ℕ

-- complete over the inputs below k: it has the state 0, and each state and input lead to a state
pub record Complete (k : ℕ) (M : Machine) : Type 0 where
  pub start : 0 < M.states
  pub closed : (q i : ℕ) → q < M.states → i < k → M.next q i < M.states

-- the state after a word, from the state q
abbrev pub after : Machine → ℕ → Word → ℕ
after M q [] = q
after M q (i ∷ w) = after M (M.next q i) w

-- the answer to a word, from the state q: one output an input
abbrev pub answer_from : Machine → ℕ → Word → List ℕ
answer_from M q [] = []
answer_from M q (i ∷ w) = M.output q i ∷ answer_from M (M.next q i) w

-- the answer after reset
abbrev pub answer : Machine → Word → List ℕ
answer M w = answer_from M 0 w

-- entries by state, then by input: next state, output
abbrev pub Table : Type 0
Table = List (ℕ × ℕ)

-- the machine of n states and k inputs that a table holds
abbrev pub machine_of : ℕ → ℕ → Table → Machine
machine_of k n table =
    record {
      states = n;
      next = λ q i. (get_or table (q * k + i) (0, 0)).0;
      output = λ q i. (get_or table (q * k + i) (0, 0)).1;
    }
