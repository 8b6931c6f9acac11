-- Laws of the searches for a record whose word is no test and for a test that has no record.
use Prim.Native.Nat.{ℕ, suc, ◌+◌, ◌-◌, ◌≤◌, ◌<◌}
use native.Mathlib.Omega.{arith}
use mathlib.Core.Path.{◌≡◌, refl, sym, ◌∙◌, ap}
use mathlib.Core.List.{List, [], ◌∷◌, map}
use mathlib.Core.Bool.{Bool, true, false, not}
use mathlib.Core.Option.{Option, none, some}
use lib.ListN.{length}
use Rattle.std.specs.Prelude.{Option as Found, Some, None, Result, Ok, Err}
use Rattle.rules.specs.Lists.{sum}
use Rattle.rules.specs.Sizes.{most_sheet_bytes}
use Rattle.rules.specs.Words.{Word, is_in}
use Rattle.rules.specs.Files.{SheetRecord}
use Rattle.rules.specs.declared.Refusal.{Refusal}
use Rattle.rules.specs.declared.Refusal.TheVariants.{Repeated, Foreign, Absent}
use Rattle.rules.specs.Operations.{◌>>◌, require_none, repeated, foreign, absent, pair}
use Rattle.reader.specs.Places.{word_at, after_word, words_at, after_record, records_at, WordsAt, RecordsAt}
use Rattle.reader.specs.Turns.{word_turn, words_end}
use Rattle.theory.specs.Lists.{clash}
use Rattle.trie.specs.Model.{Trie}
use Rattle.trie.specs.Holds.{Holds}
use Rattle.soundness.specs.Lent.{finding_of}
use Rattle.judge_records.specs.Filed.{found_of, words_of, Filed}
use Rattle.judge_records.proofs.Looking.{word_of_record}
use Rattle.judge_pairing.specs.Marked.{Marking, Knowing}
use Rattle.judge_pairing.specs.Unpaired.{unpaired, first_refusal}
use Rattle.judge_records.proofs.Standing.{RecordsLeft, RecordScan, record_among, record_scan_found, record_scan_next, record_scan_end, WordsLeft, WordScan, word_scan_found, word_scan_next, word_scan_end, records_fit}

-- a trie of 65,536 nodes has room for the records of a sheet
pub records_room : (s : List ℕ) (p k c n : ℕ) → RecordsAt s p k c → 1 < p → length s ≤ most_sheet_bytes → n ≡ 65536
    → (suc (sum (map length (words_of (records_at s p c)))) ≤ n) × (n ≤ 65536)
records_room s p k c n stand start size e = (omega (arith, records_fit s p k c stand), omega arith)

-- Marking the tests one after the other.
module _ (t : Trie) (all : List Word) (s : List ℕ) (p k c : ℕ) (marks : List ℕ) where
  pub marking_next : (marks' : List ℕ) → 0 < c → WordsAt s p k c
      → ((rest : List Word) → Marking t all (word_at s p ∷ rest) marks → Marking t all rest marks') → Marking t all (words_at s p c) marks → Marking t all (words_at s (after_word s p) (c - 1)) marks'
  marking_next marks' left stand marked x =
      marked (words_at s (after_word s p) (c - 1)) (rw (word_turn s p k c left stand).words at x)

  pub marking_end : c ≤ 0 → Marking t all (words_at s p c) marks → Marking t all [] marks
  marking_end over x = rw (words_end s p c over) at x

-- At the record number i.
module _ (tests : List Word) (s : List ℕ) (p k c i at : ℕ) where
  abbrev unknown : ℕ × SheetRecord → Bool
  unknown (i, r) = not (is_in r.word tests)

  abbrev rs : List SheetRecord
  rs = records_at s p c

  pub foreign_end : c ≤ i → RecordScan unknown s p c i at → None ≡ found_of (foreign tests rs)
  unfolding foreign
  foreign_end over scan = sym (ap found_of (record_scan_end unknown s p c i at over scan))

  module _ (x : RecordsLeft s p k c i at) (more : i < c) (told : Bool) (asked : is_in (word_at s at) (words_of rs) ≡ true → told ≡ is_in (word_at s at) tests) (scan : RecordScan unknown s p c i at) where
    is_told : told ≡ is_in (word_at s at) tests
    is_told = asked (word_of_record (record_among s p k c i at x more))

    pub foreign-found : told ≡ false → Some i ≡ found_of (foreign tests rs)
    unfolding foreign
    foreign-found no_test = sym (ap found_of (record_scan_found unknown s p k c i at x more scan (ap not (sym is_told ∙ no_test))))

    pub foreign_next : told ≡ true → (n : ℕ) → n ≡ after_record s at → RecordScan unknown s p c (i + 1) n
    foreign_next test n place = record_scan_next unknown s p k c i at x more scan n place (ap not (sym is_told ∙ test))

-- At the test number i.
module _ (s : List ℕ) (p k c i at : ℕ) (rs : List SheetRecord) where
  abbrev unanswered : ℕ × Word → Bool
  unanswered (i, t) = not (is_in t (words_of rs))

  pub absent_end : c ≤ i → WordScan unanswered s p c i at → None ≡ found_of (absent (words_at s p c) rs)
  unfolding absent
  absent_end over scan = sym (ap found_of (word_scan_end unanswered s p c i at over scan))

  module _ (x : WordsLeft s p k c i at) (more : i < c) (scan : WordScan unanswered s p c i at) where
    pub absent-found : is_in (word_at s at) (words_of rs) ≡ false → Some i ≡ found_of (absent (words_at s p c) rs)
    unfolding absent
    absent-found no_record = sym (ap found_of (word_scan_found unanswered s p k c i at x more scan (ap not no_record)))

    pub absent_next : is_in (word_at s at) (words_of rs) ≡ true → (n : ℕ) → n ≡ after_word s at → WordScan unanswered s p c (i + 1) n
    absent_next has_record n place = word_scan_next unanswered s p k c i at x more scan n place (ap not has_record)

-- What the searches answer together.
found_none : {A : Type 0} (o : Option (ℕ × A)) → None ≡ found_of o → o ≡ none
found_none none e = refl
found_none (some (i, x)) e = let z : ◌≡◌ {A = ℕ} 0 1 = cc in absurd (omega arith)

found_some : {A : Type 0} (o : Option (ℕ × A)) (i : ℕ) → Some i ≡ found_of o → (x : A) × (o ≡ some (i, x))
found_some none i e = let z : ◌≡◌ {A = ℕ} 0 1 = cc in absurd (omega arith)
found_some (some (j, x)) i e = let same : j ≡ i = cc in (x, ap (λ (n : ℕ). some (n, x)) same)

-- the trie has each record's word, and marks for the tests
pub filed_knowing : {s : List ℕ} {k : ℕ} {rs : List SheetRecord} {label first next value : List ℕ} (tests : List Word) (marks : List ℕ) → Filed s k rs label first next value
    → ((t : Trie) → Holds t label first next → Marking t tests [] marks) → Knowing tests (words_of rs) label first next marks
filed_knowing tests marks x marked =
    record {
      trie = x.trie;
      holds = x.holds;
      has = λ w there. x.noted.there w (λ z. clash there (x.unfiled w z));
      marked = marked x.trie x.holds;
    }

module _ (tests : List Word) (rs : List SheetRecord) where
  pub first_refused : (f a : Found ℕ) → f ≡ found_of (foreign tests rs) → a ≡ found_of (absent tests rs) → (r : Result (Unit {0}) Refusal) → r ≡ first_refusal f a → r ≡ finding_of (unpaired tests rs)
  first_refused f a ef ea r e = e ∙ rw (ef, ea) (go (foreign tests rs) (absent tests rs))
    where
      go : (o : Option (ℕ × SheetRecord)) (o' : Option (ℕ × Word))
          → first_refusal (found_of o) (found_of o') ≡ finding_of (◌>>◌ (require_none o (λ (i, r). Foreign i)) (require_none o' (λ (i, t). Absent i)))
      go (some (i, r)) o' = refl
      go none (some (i, t)) = refl
      go none none = refl

  module _ (r : Found ℕ) (e : r ≡ found_of (repeated rs)) where
    pub pair_repeated : (i : ℕ) → r ≡ Some i → Err (Repeated i) ≡ finding_of (pair tests rs)
    unfolding pair
    pair_repeated i is = let (x, o) = found_some (repeated rs) i (sym is ∙ e) in rw o

    pub pair_unrepeated : r ≡ None → (f : Result (Unit {0}) Refusal) → f ≡ finding_of (unpaired tests rs) → f ≡ finding_of (pair tests rs)
    unfolding pair
    pair_unrepeated is f same = rw (found_none (repeated rs) (sym is ∙ e)) same

pub refused_not_fine : {A : Type 0} {f : Refusal} → ◌≡◌ {A = Result (Unit {0}) Refusal} (Err f) (Ok tt) → A
refused_not_fine e = let z : ◌≡◌ {A = ℕ} 0 1 = cc in absurd (omega arith)
