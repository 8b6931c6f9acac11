-- Where the things that a file holds stand in its bytes (document 01, "The three files").
use Rattle.std.specs.Prelude.{ℕ, zero, suc, ◌+◌, ◌*◌, ◌≤◌, ◌<◌, List, [], ◌∷◌, length, get_or, take, drop}
use Rattle.rules.specs.Words.{Word}
use Rattle.rules.specs.Machines.{Table, Machine, machine_of}
use Rattle.rules.specs.Files.{SheetRecord}

-- the bytes of an output and of a table entry
abbrev pub output_width : ℕ
output_width = 1

abbrev pub entry_width : ℕ
entry_width = suc output_width

-- the output that stands at p
abbrev pub output_at : List ℕ → ℕ → ℕ
output_at s p = get_or s p 0

-- the c outputs that stand from p on
unfoldable pub outputs_at : List ℕ → ℕ → ℕ → List ℕ
outputs_at s p zero = []
outputs_at s p (suc c) = output_at s p ∷ outputs_at s (p + output_width) c

-- the c table entries that stand from p on
unfoldable pub entries_at : List ℕ → ℕ → ℕ → Table
entries_at s p zero = []
entries_at s p (suc c) = (get_or s p 0, output_at s (p + 1)) ∷ entries_at s (p + entry_width) c

-- the machine of k inputs and n states whose table stands at p
abbrev pub machine_at : List ℕ → ℕ → ℕ → ℕ → Machine
machine_at s p k n = machine_of k n (entries_at s p (n * k))

-- the word whose length byte stands at p
unfoldable pub word_at : List ℕ → ℕ → Word
word_at s p = take (get_or s p 0) (drop (p + 1) s)

-- the place after it
abbrev pub after_word : List ℕ → ℕ → ℕ
after_word s p = p + 1 + get_or s p 0

-- the c words that stand from p on
unfoldable pub words_at : List ℕ → ℕ → ℕ → List Word
words_at s p zero = []
words_at s p (suc c) = word_at s p ∷ words_at s (after_word s p) c

-- the place of the word number i of those that stand from p on
unfoldable pub word_place : List ℕ → ℕ → ℕ → ℕ
word_place s p zero = p
word_place s p (suc i) = word_place s (after_word s p) i

-- the place after the record whose length byte stands at p
abbrev pub after_record : List ℕ → ℕ → ℕ
after_record s p = after_word s p + output_width * get_or s p 0

-- the c records that stand from p on
unfoldable pub records_at : List ℕ → ℕ → ℕ → List SheetRecord
records_at s p zero = []
records_at s p (suc c) =
    record { word = word_at s p; recorded = outputs_at s (after_word s p) (get_or s p 0) } ∷ records_at s (after_record s p) c

-- What a reading that went well leaves: a table of k inputs and n states at p, all of whose next states are states.
pub record TableAt (s : List ℕ) (p k n : ℕ) : Type 0 where
  pub start : 0 < n
  pub inside : p + entry_width * (n * k) ≤ length s
  pub closed : (j : ℕ) → j < n * k → get_or s (p + entry_width * j) 0 < n

-- a word at p, all of whose inputs are below k
pub record WordAt (s : List ℕ) (p k : ℕ) : Type 0 where
  pub inside : after_word s p ≤ length s
  pub below : (j : ℕ) → j < get_or s p 0 → get_or s (p + 1 + j) 0 < k

-- c words from p on
abbrev pub WordsAt : List ℕ → ℕ → ℕ → ℕ → Type 0
WordsAt s p k zero = p ≤ length s
WordsAt s p k (suc c) = WordAt s p k × WordsAt s (after_word s p) k c

-- c records from p on
abbrev pub RecordsAt : List ℕ → ℕ → ℕ → ℕ → Type 0
RecordsAt s p k zero = p ≤ length s
RecordsAt s p k (suc c) = WordAt s p k × (after_record s p ≤ length s) × RecordsAt s (after_record s p) k c
