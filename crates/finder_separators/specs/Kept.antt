-- The words of a text that are kept: each once, where it stands first.
use Rattle.std.specs.Prelude.{ℕ, zero, suc, ◌≤◌, ◌<◌, ◌≡◌, List, [], ◌∷◌, map, length, get_or}
use Rattle.rules.specs.Lists.{sum}
use Rattle.rules.specs.Words.{Word}
use Rattle.rules.specs.Needed.{distinct}
use Rattle.reader.specs.declared.UnitShape.{UnitShape}
use Rattle.reader.specs.Places.{word_at, words_at, WordsAt}
use Rattle.walker.specs.Walks.{Whole}
use Rattle.finder_spelling.specs.Spelt.{text_room, most_words, told_words}

-- words that stand at the front of a text
pub record TextAt (text : List ℕ) (k count : ℕ) : Type 0 where
  pub size : length text ≡ text_room
  pub stand : WordsAt text 0 k count
  pub few : count ≤ most_words
  pub inputs : sum (map (λ (w : Word). length w) (words_at text 0 count)) ≤ 43680

-- the n words of a text at the places number j, j + 1, ..
unfoldable pub words_from : List ℕ → List ℕ → ℕ → ℕ → List Word
words_from text places j zero = []
words_from text places j (suc n) = word_at text (get_or places j 0) ∷ words_from text places (suc j) n

-- whole words stand at the first n places
pub record WholeAt (text places : List ℕ) (n : ℕ) : Type 0 where
  pub long : n ≤ length places
  pub few : n ≤ most_words
  pub whole : (j : ℕ) → j < n → Whole text (get_or places j 0)

-- the first n places are those of the words of the text that are kept
pub record KeptAt (text : List ℕ) (count : ℕ) (places : List ℕ) (n : ℕ) : Type 0 where
  pub words : WholeAt text places n
  pub kept : words_from text places 0 n ≡ distinct (words_at text 0 count)

-- they are the separating words that are found for the unit
pub record SeparatorsAt (s : List ℕ) (x : UnitShape) (m text places : List ℕ) (n : ℕ) : Type 0 where
  pub words : WholeAt text places n
  pub kept : words_from text places 0 n ≡ distinct (told_words s x m)
