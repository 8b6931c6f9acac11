-- Document 01, "The three files" (a word), "Needed words" (beginnings) and the two orders: "by length, then by inputs" and
-- "by inputs from the front".
use Rattle.std.specs.Prelude.{ℕ, zero, suc, ◌<◌, ◌≡◌, Bool, true, false, not, ◌&&◌, ◌||◌, ltb, eqb, length}
use mathlib.Core.List.{List, [], ◌∷◌, ◌++◌, map, flat_map}
use Rattle.rules.specs.Lists.{numbers, any}

-- the inputs of a word
abbrev pub Word : Type 0
Word = List ℕ

-- every input of the word is below k
abbrev pub Valid : ℕ → Word → Type 0
Valid k [] = Unit {0}
Valid k (i ∷ w) = (i < k) × Valid k w

abbrev pub same : List ℕ → List ℕ → Bool
same [] [] = true
same [] (b ∷ w) = false
same (a ∷ v) [] = false
same (a ∷ v) (b ∷ w) = eqb a b && same v w

-- v is w or a beginning of w
abbrev pub Begins : Word → Word → Type 0
Begins v w = (rest : Word) × (v ++ rest ≡ w)

-- whether it is
abbrev pub begins : Word → Word → Bool
begins [] w = true
begins (a ∷ v) [] = false
begins (a ∷ v) (b ∷ w) = eqb a b && begins v w

abbrev pub begins_properly : Word → Word → Bool
begins_properly v w = begins v w && not (same v w)

-- v comes before w by inputs from the front; a proper beginning comes first
abbrev pub by_inputs : Word → Word → Bool
by_inputs v [] = false
by_inputs [] (b ∷ w) = true
by_inputs (a ∷ v) (b ∷ w) = ltb a b || eqb a b && by_inputs v w

-- v comes before w by length, then by inputs
abbrev pub by_length : Word → Word → Bool
by_length v w = ltb (length v) (length w) || eqb (length v) (length w) && by_inputs v w

-- whether w is one of the words
abbrev pub is_in : Word → List Word → Bool
is_in w ws = any (same w) ws

-- the words of n inputs below k, by inputs
unfoldable pub words_of : ℕ → ℕ → List Word
words_of k zero = [] ∷ []
words_of k (suc n) = flat_map (λ i. map (λ w. i ∷ w) (words_of k n)) (numbers k)

-- the words of at most b inputs below k: by length, then by inputs
unfoldable pub shortlex : ℕ → ℕ → List Word
shortlex k zero = words_of k zero
shortlex k (suc b) = shortlex k b ++ words_of k (suc b)
