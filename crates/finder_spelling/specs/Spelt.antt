-- The first telling words of all pairs of states, spelt one after the other.
use Rattle.std.specs.Prelude.{ℕ, suc, ◌-◌, ◌≤◌, ◌≡◌, cond, eqb, length}
use mathlib.Core.List.{List, [], ◌∷◌, map, flat_map}
use Rattle.rules.specs.Lists.{sum, numbers_from}
use Rattle.rules.specs.Words.{Word}
use Rattle.rules.specs.Files.{word_bytes}
use Rattle.rules.specs.Needed.{pairs}
use Rattle.reader.specs.declared.UnitShape.{UnitShape}
use Rattle.reader.specs.Places.{words_at, WordsAt}
use Rattle.finder_telling.specs.Read.{telling_off}
use Rattle.theory.specs.Wrote.{Wrote}

-- the bytes and the words that there is room for
abbrev pub text_room : ℕ
text_room = 45696

abbrev pub most_words : ℕ
most_words = 2016

-- the pairs of n states whose first is p and whose second is at least q; those whose first is at least p
abbrev pub row_pairs : ℕ → ℕ → ℕ → List (ℕ × ℕ)
row_pairs n p q = map (λ b. (p, b)) (numbers_from q (n - q))

abbrev pub rows_from : ℕ → ℕ → List (ℕ × ℕ)
rows_from n p = flat_map (λ a. map (λ b. (a, b)) (numbers_from (suc a) (n - suc a))) (numbers_from p (n - p))

-- the word of a pair, as it is read off the table of distances
abbrev pub word_of_pair : List ℕ → UnitShape → List ℕ → ℕ × ℕ → Word
word_of_pair s x m (p, q) = telling_off s x m p q

-- the words of pairs, each behind its length byte
abbrev pub spelt_of : List ℕ → UnitShape → List ℕ → List (ℕ × ℕ) → List ℕ
spelt_of s x m l = flat_map word_bytes (map (word_of_pair s x m) l)

-- the words of all pairs; for one state the empty word
unfoldable pub told_words : List ℕ → UnitShape → List ℕ → List Word
told_words s x m = cond (eqb x.states 1) ([] ∷ []) (map (word_of_pair s x m) (pairs x.states))

-- the words of all pairs were written from the front on, and they are `count`
pub record SpellsAll (s : List ℕ) (x : UnitShape) (m text text' : List ℕ) (count : ℕ) : Type 0 where
  pub end : ℕ
  pub wrote : Wrote text 0 (spelt_of s x m (pairs x.states)) text' end
  pub counted : count ≡ length (pairs x.states)

-- the words stand at the front of the text, and they are `count`
pub record SpeltAt (s : List ℕ) (x : UnitShape) (m text : List ℕ) (count : ℕ) : Type 0 where
  pub size : length text ≡ text_room
  pub words : words_at text 0 count ≡ told_words s x m
  pub stand : WordsAt text 0 x.inputs count
  pub few : count ≤ most_words
  pub inputs : sum (map (λ (w : Word). length w) (told_words s x m)) ≤ 43680
