-- Document 01, "Needed words".
use Rattle.std.specs.Prelude.{ℕ, suc, ◌-◌, ◌≤◌, ◌<◌, ◌≡◌, ◌≢◌, cond, not, eqb, length}
use mathlib.Core.List.{List, [], ◌∷◌, ◌++◌, map, flat_map}
use Rattle.std.proofs.Math.Option.{Option}
use Rattle.rules.specs.Lists.{◌∈◌, numbers, numbers_from, placed, any, all, first, keep}
use Rattle.rules.specs.Words.{Word, Valid, Begins, same, begins, begins_properly, by_inputs, shortlex}
use Rattle.rules.specs.Machines.{after, answer_from}
use Rattle.rules.specs.Files.{DossierData, golden, bound}

-- a cover word, then a middle, then a separating word
pub record IsNeeded (d : DossierData) (w : Word) : Type 0 where
  pub front : Word
  pub middle : Word
  pub back : Word
  pub covering : front ∈ d.cover
  pub inputs : Valid d.inputs middle
  pub short : length middle ≤ suc (bound d - d.states)
  pub separating : back ∈ d.separating
  pub joined : w ≡ front ++ middle ++ back

-- when a dossier that is well formed is accepted
pub record IsAccepted (d : DossierData) : Type 0 where
  pub empty_word : [] ∈ d.cover
  pub reached : (q : ℕ) → q < d.states → (c : Word) × (c ∈ d.cover) × (after (golden d) 0 c ≡ q)
  pub separator : (s : Word) × (s ∈ d.separating)
  pub separated : (p q : ℕ) → p < d.states → q < d.states → p ≢ q → (s : Word) × (s ∈ d.separating) × (answer_from (golden d) p s ≢ answer_from (golden d) q s)
  pub tested : (w : Word) → IsNeeded d w → (t : Word) × (t ∈ d.tests) × Begins w t

-- the middles: words of at most m - n + 1 inputs, by length, then by inputs
unfoldable pub middles : DossierData → List Word
middles d = shortlex d.inputs (suc (bound d - d.states))

-- a needed word with its middle and the places of its cover and separating words
pub record Need : Type 0 where
  pub cover_place : ℕ
  pub middle : Word
  pub separator_place : ℕ
  pub word : Word

-- the needed words as the checker goes through them: cover in file order outermost, then middle, then separating
unfoldable pub needed : DossierData → List Need
needed d =
    flat_map (λ (i, c). flat_map (λ y. map (λ (j, s). record { cover_place = i; middle = y; separator_place = j; word = c ++ y ++ s }) (placed d.separating)) (middles d)) (placed d.cover)

abbrev pub needed_words : DossierData → List Word
needed_words d = map (λ x. x.word) (needed d)

-- the lowest golden state that no cover word reaches from 0
unfoldable pub unreached : DossierData → Option ℕ
unreached d = first (λ q. not (any (λ c. eqb (after (golden d) 0 c) q) d.cover)) (numbers d.states)

-- the pairs of distinct numbers below n, the lower one first: by the first, then by the second
unfoldable pub pairs : ℕ → List (ℕ × ℕ)
pairs n = flat_map (λ p. map (λ q. (p, q)) (numbers_from (suc p) (n - suc p))) (numbers n)

-- the lowest pair of golden states that answer every separating word alike
unfoldable pub unseparated : DossierData → Option (ℕ × ℕ)
unseparated d =
    first (λ (p, q). all (λ s. same (answer_from (golden d) p s) (answer_from (golden d) q s)) d.separating) (pairs d.states)

-- the first needed word that is no test and no beginning of a test
unfoldable pub missing : DossierData → Option Need
missing d = first (λ x. not (any (begins x.word) d.tests)) (needed d)

-- each word once, at its first place
abbrev pub distinct : List Word → List Word
distinct [] = []
distinct (w ∷ ws) = w ∷ keep (λ v. not (same v w)) (distinct ws)

-- the words that are no proper beginning of another, each once at its first place
unfoldable pub maximal_of : List Word → List Word
maximal_of ws = distinct (keep (λ w. not (any (begins_properly w) ws)) ws)

-- w put in its place among words that are ordered by inputs
abbrev pub insert : Word → List Word → List Word
insert w [] = w ∷ []
insert w (v ∷ vs) = cond (by_inputs v w) (v ∷ insert w vs) (w ∷ v ∷ vs)

abbrev pub ordered : List Word → List Word
ordered [] = []
ordered (w ∷ ws) = insert w (ordered ws)

-- the tests that build writes
unfoldable pub built_tests : DossierData → List Word
built_tests d = ordered (maximal_of (needed_words d))
