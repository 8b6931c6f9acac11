-- The words of a section at the places where each stands first.
use Rattle.std.specs.Prelude.{ℕ, ◌+◌, ◌<◌, ◌≡◌, List, [], Bool, true, false, not, length, get_or, set, take}
use Rattle.rules.specs.Lists.{placed, keep}
use Rattle.rules.specs.Words.{Word, is_in}
use Rattle.reader.specs.Places.{word_place, words_at}

-- whether a word with its place is the first of its kind among the words
abbrev pub is_first : List Word → ℕ × Word → Bool
is_first ws (i, w) = not (is_in w (take i ws))

-- each word once, with its first place
abbrev pub firsts : List Word → List (ℕ × Word)
firsts ws = keep (is_first ws) (placed ws)

-- the two lists name the first places among the c words from p on: by number, and by byte
pub record FirstPlaces (s : List ℕ) (p c : ℕ) (numbers places : List ℕ) (n : ℕ) : Type 0 where
  pub counted : n ≡ length (firsts (words_at s p c))
  pub number : (j : ℕ) → j < n → get_or numbers j 0 ≡ (get_or (firsts (words_at s p c)) j (0, [])).0
  pub place : (j : ℕ) → j < n → get_or places j 0 ≡ word_place s p (get_or numbers j 0)

-- what is stored of a word behind n others, and how many there are then: nothing where it was seen before
abbrev pub StoredOf : Bool → ℕ → ℕ → ℕ → List ℕ → List ℕ → List ℕ → List ℕ → ℕ → Type 0
StoredOf true n i place numbers places numbers' places' r = (r ≡ n) × (numbers' ≡ numbers) × (places' ≡ places)
StoredOf false n i place numbers places numbers' places' r = (r ≡ n + 1) × (numbers' ≡ set numbers n i) × (places' ≡ set places n place)
