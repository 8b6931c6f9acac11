-- The records of a sheet under their words in a trie, and what is found there.
use Rattle.std.specs.Prelude.{ℕ, ◌≤◌, ◌<◌, ◌≡◌, List, map, false, length, get_or}
use Rattle.std.proofs.Math.Option.{Option, none, some}
use Rattle.rules.specs.Lists.{◌∈◌}
use Rattle.rules.specs.Words.{Word, is_in}
use Rattle.rules.specs.Files.{SheetRecord}
use Rattle.reader.specs.Places.{word_at, after_word, outputs_at, after_record, WordAt}
use Rattle.trie.specs.Model.{Trie, size, add_word}
use Rattle.trie.specs.Holds.{Holds}
use Rattle.trie.specs.Values.{Map, put, value_of, Noted}
use Rattle.std.specs.Prelude.{Option as Found, Some, None}
use Rattle.judge_records.specs.declared.Stored.{Stored}
use Rattle.judge_records.specs.declared.Stored.TheVariants as stored

-- the place that a search gives
abbrev pub found_of : {A : Type 0} → Option (ℕ × A) → Found ℕ
found_of none = None
found_of (some (i, x)) = Some i

abbrev pub words_of : List SheetRecord → List Word
words_of rs = map (λ (r : SheetRecord). r.word) rs

-- the record that stands at p
abbrev pub record_at : List ℕ → ℕ → SheetRecord
record_at s p = record { word = word_at s p; recorded = outputs_at s (after_word s p) (get_or s p 0) }

-- the record at p stands whole over k inputs, is one of rs and has the word w
pub record Stands (s : List ℕ) (k : ℕ) (rs : List SheetRecord) (w : Word) (p : ℕ) : Type 0 where
  pub word : WordAt s p k
  pub inside : after_record s p ≤ length s
  pub is : word_at s p ≡ w
  pub among : record_at s p ∈ rs

-- Each word of the records has a record's place at its node, and no other word has a place.
pub record Filed (s : List ℕ) (k : ℕ) (rs : List SheetRecord) (label first next value : List ℕ) : Type 0 where
  pub trie : Trie
  pub holds : Holds trie label first next
  pub long : length value ≡ length label
  pub places : Map
  pub noted : Noted trie places value
  pub unfiled : (w : Word) → value_of places w ≡ 0 → is_in w (words_of rs) ≡ false
  pub filed : (w : Word) → (value_of places w ≡ 0 → ⊥) → Stands s k rs w (value_of places w)

-- what putting a record with the word w at the place p answers
abbrev pub StoredOf : Trie → Map → Word → ℕ → List ℕ → List ℕ → List ℕ → List ℕ → Stored → Type 0
StoredOf t m w p label first next value (stored.New nodes) =
    (value_of m w ≡ 0) × (nodes ≡ size (add_word t 0 w)) × Holds (add_word t 0 w) label first next × Noted (add_word t 0 w) (put m w p) value
StoredOf t m w p label first next value stored.Old = value_of m w ≡ 0 → ⊥
StoredOf t m w p label first next value stored.Full = length label < size (add_word t 0 w)
