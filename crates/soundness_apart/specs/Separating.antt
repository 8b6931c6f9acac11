-- The states that separating words tell apart (document 01, refusals 9 and 10): what the search is lent, the test that the rules' search
-- makes, and what is answered of it.
use Rattle.rules.specs.declared.GoldenState.{GoldenState}
use Rattle.std.specs.Prelude.{Option as Found, Some, None, ℕ, ◌≤◌, ◌<◌, ◌≡◌, List, Bool, true, false, length, get_or}
use Rattle.std.proofs.Math.Option.{Option, none, some}
use Rattle.rules.specs.Lists.{◌∈◌, all}
use Rattle.rules.specs.Words.{Word, same}
use Rattle.rules.specs.Machines.{Machine, answer_from}
use Rattle.rules.specs.Answers.{golden_state}
use Rattle.reader.specs.declared.DossierShape.{DossierShape}
use Rattle.reader.specs.Places.{machine_at, word_at, words_at, TableAt, WordAt, WordsAt}
use Rattle.soundness_apart.specs.declared.Known.{Known}

-- the golden and the separating words, where they stand
abbrev pub golden_at : List ℕ → DossierShape → Machine
golden_at s x = machine_at s x.table x.inputs x.states

abbrev pub separators_at : List ℕ → DossierShape → List Word
separators_at s x = words_at s x.separating x.separators

-- what the search for two states that are not told apart is lent
pub record SeparatingAt (s : List ℕ) (x : DossierShape) : Type 0 where
  pub table : TableAt s x.table x.inputs x.states
  pub few : x.states ≤ 64
  pub words : WordsAt s x.separating x.inputs x.separators

-- whether two states answer a word alike, and whether they answer all words of a list alike
abbrev pub alike_on : Machine → ℕ → ℕ → Word → Bool
alike_on M p q s = same (answer_from M p s) (answer_from M q s)

abbrev pub alike : Machine → List Word → ℕ → ℕ → Bool
alike M ws p q = all (alike_on M p q) ws

-- a separating word stands at the place p
pub record SeparatorAt (s : List ℕ) (x : DossierShape) (p : ℕ) : Type 0 where
  pub stands : WordAt s p x.inputs
  pub member : word_at s p ∈ separators_at s x

-- what the search for a telling word answers: the place of one, or that the states answer all alike
abbrev pub TellingIs : List ℕ → DossierShape → ℕ → ℕ → Found ℕ → Type 0
TellingIs s x p q (Some place) = SeparatorAt s x place × (alike_on (golden_at s x) p q (word_at s place) ≡ false)
TellingIs s x p q None = alike (golden_at s x) (separators_at s x) p q ≡ true

-- the places that are known are places of separating words
pub record KnownAt (s : List ℕ) (x : DossierShape) (known : Known) : Type 0 where
  pub few : known.count ≤ 64
  pub size : length known.places ≡ 64
  pub separators : (j : ℕ) → j < known.count → SeparatorAt s x (get_or known.places j 0)

abbrev pub pair_found : Option (ℕ × ℕ) → Found (GoldenState × GoldenState)
pair_found none = None
pair_found (some (p, q)) = Some (golden_state p, golden_state q)
