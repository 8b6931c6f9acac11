-- What a suite of tests has to try of a unit, for the W method and for the Wp method. That it is enough is proved in proofs/Suites.antt.
use Rattle.std.specs.Prelude.{◌≡◌, ◌≢◌, List, [], ◌++◌, ℕ, suc, ◌+◌, ◌≤◌, ◌<◌, length}
use Rattle.rules.specs.Lists.{◌∈◌}
use Rattle.rules.specs.Words.{Word, Valid}
use Rattle.rules.specs.Machines.{Machine, Complete, after, answer_from, answer}
use Rattle.theory.specs.Ways.{Start}

-- What a method has to show of the golden `G`, of the unit `U` and of the words on which they answer alike. `ids q` are the
-- words that identify the golden state `q`; for the W method these are all the separating words.
pub record Tried (k : ℕ) (G U : Machine) (d : ℕ) (cover separating : List Word) (ids : ℕ → List Word) : Type 0 where
  pub golden : Complete k G
  pub unit : Complete k U
  pub few : U.states ≤ G.states + d
  pub valid : (c : Word) → c ∈ cover → Valid k c
  pub empty_word : [] ∈ cover
  pub reached : (q : ℕ) → q < G.states → Start G cover q
  pub some_id : (q : ℕ) → q < G.states → (s : Word) × (s ∈ ids q)
  pub among : (q : ℕ) (s : Word) → s ∈ ids q → s ∈ separating
  pub identified : (p q : ℕ) → p < G.states → q < G.states → p ≢ q → (s : Word) × (s ∈ ids p) × (answer_from G p s ≢ answer_from G q s)
  -- a cover word, at most `d` inputs, and a separating word
  pub separate : (c y s : Word) → c ∈ cover → Valid k y → length y ≤ d → s ∈ separating → answer U (c ++ y ++ s) ≡ answer G (c ++ y ++ s)
  -- a cover word, 1 to `d + 1` inputs, and a word that identifies the golden state to which these lead
  pub identify : (c y s : Word) → c ∈ cover → Valid k y → 0 < length y → length y ≤ suc d → s ∈ ids (after G 0 (c ++ y))
      → answer U (c ++ y ++ s) ≡ answer G (c ++ y ++ s)
