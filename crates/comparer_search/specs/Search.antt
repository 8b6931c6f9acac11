-- What the search over pairs has done (document 01, "Compare"): pairs are met in the order of words, by length and then by
-- inputs, so the first step that shows different outputs spells the first telling word.
use Rattle.std.specs.Prelude.{ℕ, ◌+◌, ◌≤◌, ◌<◌, ◌≡◌, List, [], ◌∷◌, ◌++◌, Option, Some, None, Result, Ok, Err, Bool, true, false, length, set}
use Rattle.rules.specs.Sizes.{most_inputs, most_states}
use Rattle.rules.specs.Words.{Word, Valid}
use Rattle.rules.specs.Machines.{Machine, Complete, after, answer}
use Rattle.theory.specs.Orders.{AtMost, ByLength}
use Rattle.theory.specs.Compare.{Equal, FirstTelling}
use Rattle.rules.specs.declared.Input.{Input}
use Rattle.comparer_pairs.specs.Pairs.{pairs, golden_of, unit_of, golden_says, unit_says, next_pair}
use Rattle.comparer_pairs.specs.Marks.{MarkTable, met, with_mark, unmet}
use Rattle.comparer_pairs.specs.Queue.{step_of, entry_of, pair_at, step_at, word_to, Falls}

-- a word leads to a pair, and golden and unit answer it alike
pub record Leads (k : ℕ) (G U : Machine) (w : Word) (p : ℕ) : Type 0 where
  pub valid : Valid k w
  pub golden : golden_of p ≡ after G 0 w
  pub unit : unit_of p ≡ after U 0 w
  pub alike : answer G w ≡ answer U w

-- an input at an entry shows nothing, and leads to a pair that is in the queue, met by a word that is no later
pub record Followed (G U : Machine) (queue : List ℕ) (tail j i : ℕ) : Type 0 where
  pub same : golden_says G (pair_at queue j) i ≡ unit_says U (pair_at queue j) i
  pub place : ℕ
  pub inside : place < tail
  pub pair : pair_at queue place ≡ next_pair G U (pair_at queue j) i
  pub no_later : AtMost (word_to queue place) (word_to queue j ++ (i ∷ []))

-- the machines whose pairs are searched
pub record Searchable (k : ℕ) (G U : Machine) : Type 0 where
  pub golden : Complete k G
  pub unit : Complete k U
  pub few_inputs : k ≤ most_inputs
  pub few_states : G.states ≤ most_states
  pub few_units : U.states ≤ most_states

-- all steps before `step` have been taken, and `tail` pairs have been met
pub record Searched (k : ℕ) (G U : Machine) (marks queue : List ℕ) (step tail : ℕ) : Type 0 where
  pub table : MarkTable marks
  pub room : length queue ≡ pairs
  pub counted : tail + unmet marks pairs ≡ pairs
  pub some : 0 < tail
  pub start : pair_at queue 0 ≡ 0
  pub falls : Falls queue tail
  pub leads : (j : ℕ) → j < tail → Leads k G U (word_to queue j) (pair_at queue j)
  pub before : (j : ℕ) → 0 < j → j < tail → step_at queue j < step
  pub rises : (i j : ℕ) → i < j → j < tail → ByLength (word_to queue i) (word_to queue j)
  pub queued : (p : ℕ) → p < pairs → met marks p ≡ true → (j : ℕ) × (j < tail) × (pair_at queue j ≡ p)
  pub followed : (j i : ℕ) → j < tail → i < k → step_of j i < step → Followed G U queue tail j i

-- an entry and an input spell the first telling word
pub record Tells (k : ℕ) (G U : Machine) (queue : List ℕ) (j i : ℕ) : Type 0 where
  pub inside : j < pairs
  pub falls : Falls queue (j + 1)
  pub first : FirstTelling k G U (word_to queue j ++ (i ∷ []))

-- what the steps at the entry j before the step `step` came to
abbrev pub ProgressOf : ℕ → Machine → Machine → List ℕ → List ℕ → ℕ → ℕ → Result ℕ Input → Type 0
ProgressOf k G U marks queue j step (Err i) = Tells k G U queue j i.0
ProgressOf k G U marks queue j step (Ok tail) = Searched k G U marks queue step tail × (j < tail) × (tail ≤ pairs)

-- what the search came to
abbrev pub FoundOf : ℕ → Machine → Machine → List ℕ → Option (ℕ × Input) → Type 0
FoundOf k G U queue None = Equal k G U
FoundOf k G U queue (Some (j, i)) = Tells k G U queue j i.0

-- a pair that was met already is passed over, another one is marked and queued behind the others
abbrev pub PutOf : Bool → List ℕ → List ℕ → ℕ → ℕ → ℕ → List ℕ → List ℕ → ℕ → Type 0
PutOf true marks queue tail p step marks' queue' r = (marks' ≡ marks) × (queue' ≡ queue) × (r ≡ tail)
PutOf false marks queue tail p step marks' queue' r =
    (marks' ≡ with_mark marks p) × (queue' ≡ set queue tail (entry_of step p)) × (r ≡ tail + 1)
