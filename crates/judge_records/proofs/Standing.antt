-- Going through the records of a sheet, or the tests of a dossier, one by one where they stand.
use Prim.Native.Nat.{ℕ, zero, suc, ◌+◌, ◌-◌, ◌*◌, ◌≤◌, ◌<◌}
use native.Mathlib.Omega.{arith}
use native.Mathlib.Numerals.{add-one}
use mathlib.Core.Path.{◌≡◌, refl, sym, ◌∙◌}
use mathlib.Core.List.Memᴰ
use mathlib.Core.List.{List, [], ◌∷◌, ◌++◌, map, flat_map}
use mathlib.Core.Bool.{Bool, true, false}
use mathlib.Core.Option.{none, some}
use lib.ListN.{length, take, length-append}
use Rattle.rules.specs.Lists.{◌∈◌, sum, placed, placed_from, first}
use Rattle.rules.specs.Words.{Word}
use Rattle.rules.specs.Files.{SheetRecord, word_bytes}
use Rattle.theory.specs.Lists.{At, some_injective, none_not_some}
use Rattle.reader.specs.Places.{word_at, after_word, words_at, word_place, after_record, records_at, WordAt, WordsAt, RecordsAt}
use Rattle.reader.specs.Turns.{word_turn, words_end}
use Rattle.walker.proofs.Words.{word-length}
use Rattle.judge_records.specs.Filed.{record_at, words_of}

-- one turn of a loop over c records from p on
pub record RecordTurn (s : List ℕ) (p k c : ℕ) : Type 0 where
  pub here : WordAt s p k
  pub inside : after_record s p ≤ length s
  pub rest : RecordsAt s (after_record s p) k (c - 1)
  pub records : records_at s p c ≡ record_at s p ∷ records_at s (after_record s p) (c - 1)

pub record_turn : (s : List ℕ) (p k c : ℕ) → 0 < c → RecordsAt s p k c → RecordTurn s p k c
unfolding records_at
record_turn s p k zero left stand = absurd (omega arith)
record_turn s p k (suc c) left (here, inside, rest) =
    let less : suc c - 1 ≡ c = omega arith in
    record { here = here; inside = inside; rest = rw less rest; records = rw less }

-- no records are left
pub records_end : (s : List ℕ) (p c : ℕ) → c ≤ 0 → records_at s p c ≡ []
unfolding records_at
records_end s p zero h = refl
records_end s p (suc c) h = absurd (omega arith)

-- a record of n inputs has more than 2 n bytes
pub records_fit : (s : List ℕ) (p k c : ℕ) → RecordsAt s p k c → p + 2 * sum (map length (words_of (records_at s p c))) ≤ length s
unfolding records_at
records_fit s p k zero inside = omega arith
records_fit s p k (suc c) (here, inside, rest) =
    let rest_fits = records_fit s (after_record s p) k c rest in
    let long = word-length s p here.inside in
    omega arith

-- at the record number i of the c records from p on, which stands at `at`
pub record RecordsLeft (s : List ℕ) (p k c i at : ℕ) : Type 0 where
  pub stand : RecordsAt s at k (c - i)
  pub among : (r : SheetRecord) → r ∈ records_at s at (c - i) → r ∈ records_at s p c

pub records_begin : (s : List ℕ) (p k c : ℕ) → RecordsAt s p k c → RecordsLeft s p k c 0 p
records_begin s p k c stand =
    let whole : c - 0 ≡ c = omega arith in
    record { stand = rw whole stand; among = λ r m. rw whole at m }

module _ (s : List ℕ) (p k c i at : ℕ) (x : RecordsLeft s p k c i at) (some' : i < c) where
  left_turn : RecordTurn s at k (c - i)
  left_turn = record_turn s at k (c - i) (omega arith) x.stand

  less : c - (i + 1) ≡ c - i - 1
  less = omega arith

  pub record_whole : WordAt s at k × (after_record s at ≤ length s)
  record_whole = (left_turn.here, left_turn.inside)

  pub record_among : record_at s at ∈ records_at s p c
  record_among = x.among (record_at s at) (rw left_turn.records (Memᴰ.head refl))

  pub records_next : (n : ℕ) → n ≡ after_record s at → RecordsLeft s p k c (i + 1) n
  records_next n e =
      record {
        stand = rw (less, e) left_turn.rest;
        among = λ r m. x.among r (rw left_turn.records (Memᴰ.tail (rw (less, e) at m)));
      }

  pub records_are : (n : ℕ) → n ≡ after_record s at → records_at s at (c - i) ≡ record_at s at ∷ records_at s n (c - (i + 1))
  records_are n e = rw (less, e) left_turn.records

-- A search that has come to the record number i goes on with those that are left.
abbrev pub RecordScan : (ℕ × SheetRecord → Bool) → List ℕ → ℕ → ℕ → ℕ → ℕ → Type 0
RecordScan test s p c i at = first test (placed (records_at s p c)) ≡ first test (placed_from i (records_at s at (c - i)))

pub record_scan_begin : (test : ℕ × SheetRecord → Bool) (s : List ℕ) (p c : ℕ) → RecordScan test s p c 0 p
record_scan_begin test s p c = let whole : c - 0 ≡ c = omega arith in rw whole

pub record_scan_end : (test : ℕ × SheetRecord → Bool) (s : List ℕ) (p c i at : ℕ) → c ≤ i → RecordScan test s p c i at → first test (placed (records_at s p c)) ≡ none
record_scan_end test s p c i at over scan = scan ∙ rw (records_end s at (c - i) (omega arith))

module _ (test : ℕ × SheetRecord → Bool) (s : List ℕ) (p k c i at : ℕ) (x : RecordsLeft s p k c i at) (some' : i < c) (scan : RecordScan test s p c i at) where
  pub record_scan_found : test (i, record_at s at) ≡ true → first test (placed (records_at s p c)) ≡ some (i, record_at s at)
  record_scan_found e = scan ∙ rw (records_are s p k c i at x some' _ refl, e)

  pub record_scan_next : (n : ℕ) → n ≡ after_record s at → test (i, record_at s at) ≡ false → RecordScan test s p c (i + 1) n
  record_scan_next n place e = scan ∙ rw (records_are s p k c i at x some' n place, e, add-one i)

-- The same of words: at the word number i of the c words from p on, which stands at `at`.
pub record WordsLeft (s : List ℕ) (p k c i at : ℕ) : Type 0 where
  pub stand : WordsAt s at k (c - i)
  pub among : (w : Word) → w ∈ words_at s at (c - i) → w ∈ words_at s p c

pub words_begin : (s : List ℕ) (p k c : ℕ) → WordsAt s p k c → WordsLeft s p k c 0 p
words_begin s p k c stand =
    let whole : c - 0 ≡ c = omega arith in
    record { stand = rw whole stand; among = λ w m. rw whole at m }

module _ (s : List ℕ) (p k c i at : ℕ) (x : WordsLeft s p k c i at) (some' : i < c) where
  less_words : c - (i + 1) ≡ c - i - 1
  less_words = omega arith

  pub word_whole : WordAt s at k
  word_whole = (word_turn s at k (c - i) (omega arith) x.stand).here

  pub word_among : word_at s at ∈ words_at s p c
  word_among = x.among (word_at s at) (rw (word_turn s at k (c - i) (omega arith) x.stand).words (Memᴰ.head refl))

  module _ (n : ℕ) (e : n ≡ after_word s at) where
    pub words_are : words_at s at (c - i) ≡ word_at s at ∷ words_at s n (c - (i + 1))
    words_are = rw (less_words, e) (word_turn s at k (c - i) (omega arith) x.stand).words

    pub words_next : WordsLeft s p k c (i + 1) n
    words_next =
        record {
          stand = rw (less_words, e) (word_turn s at k (c - i) (omega arith) x.stand).rest;
          among = λ w m. x.among w (rw words_are (Memᴰ.tail m));
        }

abbrev pub WordScan : (ℕ × Word → Bool) → List ℕ → ℕ → ℕ → ℕ → ℕ → Type 0
WordScan test s p c i at = first test (placed (words_at s p c)) ≡ first test (placed_from i (words_at s at (c - i)))

pub word_scan_begin : (test : ℕ × Word → Bool) (s : List ℕ) (p c : ℕ) → WordScan test s p c 0 p
word_scan_begin test s p c = let whole : c - 0 ≡ c = omega arith in rw whole

pub word_scan_end : (test : ℕ × Word → Bool) (s : List ℕ) (p c i at : ℕ) → c ≤ i → WordScan test s p c i at → first test (placed (words_at s p c)) ≡ none
word_scan_end test s p c i at over scan = scan ∙ rw (words_end s at (c - i) (omega arith))

module _ (test : ℕ × Word → Bool) (s : List ℕ) (p k c i at : ℕ) (x : WordsLeft s p k c i at) (some' : i < c) (scan : WordScan test s p c i at) where
  pub word_scan_found : test (i, word_at s at) ≡ true → first test (placed (words_at s p c)) ≡ some (i, word_at s at)
  word_scan_found e = scan ∙ rw (words_are s p k c i at x some' _ refl, e)

  pub word_scan_next : (n : ℕ) → n ≡ after_word s at → test (i, word_at s at) ≡ false → WordScan test s p c (i + 1) n
  word_scan_next n place e = scan ∙ rw (words_are s p k c i at x some' n place, e, add-one i)

-- The word number i of those from p on, and its place.
pub word_here : (s : List ℕ) (p k c i : ℕ) (t : Word) → WordsAt s p k c → At (words_at s p c) i t → WordAt s (word_place s p i) k × (t ≡ word_at s (word_place s p i))
unfolding words_at word_place
word_here s p k zero i t stand at = none_not_some at
word_here s p k (suc c) zero t (here, rest) at = (here, sym (some_injective at))
word_here s p k (suc c) (suc i) t (here, rest) at = word_here s (after_word s p) k c i t rest at

pub word_place_lem : (s : List ℕ) (p k c i : ℕ) (t : Word) → WordsAt s p k c → At (words_at s p c) i t → word_place s p i ≡ p + length (flat_map word_bytes (take i (words_at s p c)))
unfolding words_at word_place word_bytes flat_map
word_place_lem s p k zero i t stand at = none_not_some at
word_place_lem s p k (suc c) zero t (here, rest) at = let none' : p ≡ p + 0 = omega arith in none'
word_place_lem s p k (suc c) (suc i) t (here, rest) at =
    let later = word_place_lem s (after_word s p) k c i t rest at in
    let long = word-length s p here.inside in
    let more = length-append (word_at s p) (flat_map word_bytes (take i (words_at s (after_word s p) c))) in
    let one_more : word_place s (after_word s p) i ≡ p + suc (length (word_at s p ++ flat_map word_bytes (take i (words_at s (after_word s p) c)))) = omega arith in
    one_more
