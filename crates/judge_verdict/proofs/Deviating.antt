-- Laws of the search for a test whose recorded answer is not the golden's.
use Prim.Native.Nat.{ℕ, ◌+◌, ◌≤◌, ◌<◌}
use native.Mathlib.Omega.{arith}
use native.Mathlib.Numerals.{add-one}
use mathlib.Core.Path.{◌≡◌, refl, sym, ◌∙◌, ap}
use mathlib.Core.List.{List}
use mathlib.Core.Bool.{Bool, true, false, not, cond}
use lib.ListN.{length, get_or}
use Rattle.std.specs.Prelude.{Option, Some, None}
use Rattle.rules.specs.Words.{Word, same}
use Rattle.rules.specs.Machines.{Machine, answer}
use Rattle.rules.specs.Files.{SheetRecord}
use Rattle.rules.specs.Operations.{first_difference, recorded_for, deviating}
use Rattle.theory.specs.Pairing.{NoneRepeated}
use Rattle.theory.specs.Judge.{recorded_for_lem}
use Rattle.reader.specs.Places.{word_at, after_word, words_at, word_place, outputs_at, after_record, WordAt}
use Rattle.trie_filing.proofs.Firsts.{place_next}
use Rattle.walker.specs.Walks.{differ_at}
use Rattle.trie.specs.Model.{Trie}
use Rattle.trie.specs.Holds.{Holds}
use Rattle.trie.specs.Values.{Map, value_of, Noted}
use Rattle.judge_records.specs.Filed.{record_at, Filed}
use Rattle.judge_verdict.specs.Deviations.{Answered, Served, deviation_of}
use Rattle.judge_records.proofs.Standing.{WordsLeft, WordScan, word_among, word_scan_found, word_scan_next, word_scan_end}
use Rattle.judge_records.proofs.Looking.{record_stands, record_there}

-- the first difference of two answers, or none
differ_nowhere : (a b : List ℕ) (r : Option ℕ) → r ≡ differ_at a b → r ≡ None → not (same a b) ≡ false
unfolding differ_at
differ_nowhere a b r e is = go (same a b) (sym is ∙ e)
  where
    go : (x : Bool) → ◌≡◌ {A = Option ℕ} None (cond x None (Some (first_difference a b))) → not x ≡ false
    go true h = refl
    go false h = let z : ◌≡◌ {A = ℕ} 0 1 = cc in absurd (omega arith)

differ_at_lem : (a b : List ℕ) (r : Option ℕ) (step : ℕ) → r ≡ differ_at a b → r ≡ Some step → (not (same a b) ≡ true) × (step ≡ first_difference a b)
unfolding differ_at
differ_at_lem a b r step e is = go (same a b) (sym is ∙ e)
  where
    go : (x : Bool) → Some step ≡ cond x None (Some (first_difference a b)) → (not x ≡ true) × (step ≡ first_difference a b)
    go true h = let z : ◌≡◌ {A = ℕ} 0 1 = cc in absurd (omega arith)
    go false h = (refl, cc)

-- The record of a test was found, which has one.
module _ (s : List ℕ) (k : ℕ) (w : Word) (label first next value : List ℕ) (x : Answered s k w label first next value) (r : ℕ)
    (asked : (t : Trie) (m : Map) → Holds t label first next → Noted t m value → r ≡ value_of m w) where
  there : r ≡ 0 → ⊥
  there = record_there w label first next value r asked s k x.records x.filed x.there

  pub answered_stands : WordAt s r k × (after_record s r ≤ length s)
  answered_stands =
      let h = record_stands w label first next value r asked s k x.records x.filed there in
      (h.word, h.inside)

  -- what was compared is the test's answers
  pub answered_compared : (G : Machine) (d : Option ℕ) → d ≡ differ_at (answer G (word_at s r)) (outputs_at s (after_word s r) (get_or s r 0))
      → (rs : List SheetRecord) → Filed s k rs label first next value → NoneRepeated rs → d ≡ differ_at (answer G w) (recorded_for rs w)
  answered_compared G d e rs filed once =
      let h = record_stands w label first next value r asked s k rs filed there in
      let recorded : recorded_for rs w ≡ outputs_at s (after_word s r) (get_or s r 0) = rw (← h.is) (recorded_for_lem rs once (record_at s r) h.among) in
      rw (recorded, ← h.is) e

-- At the test number i.
module _ (s : List ℕ) (p k c i at : ℕ) (G : Machine) (rs : List SheetRecord) where
  abbrev deviates : ℕ × Word → Bool
  deviates (i, t) = not (same (answer G t) (recorded_for rs t))

  pub deviating_end : c ≤ i → WordScan deviates s p c i at → None ≡ deviation_of s p G rs (deviating G rs (words_at s p c))
  deviating_end over scan = sym (ap (deviation_of s p G rs) (word_scan_end deviates s p c i at over scan))

  module _ (x : WordsLeft s p k c i at) (more : i < c) (scan : WordScan deviates s p c i at) (d : Option ℕ) (e : d ≡ differ_at (answer G (word_at s at)) (recorded_for rs (word_at s at))) where
    pub deviating_found : (step : ℕ) → d ≡ Some step → at ≡ word_place s p i → Some (i, step, at) ≡ deviation_of s p G rs (deviating G rs (words_at s p c))
    deviating_found step is here =
        let (unlike, first_step) = differ_at_lem (answer G (word_at s at)) (recorded_for rs (word_at s at)) d step e is in
        ap (λ (q : ℕ). Some (i, step, q)) here
        ∙ ap (λ (j : ℕ). Some (i, j, word_place s p i)) first_step
        ∙ sym (ap (deviation_of s p G rs) (word_scan_found deviates s p k c i at x more scan unlike))

    pub deviating_next : d ≡ None → (n : ℕ) → n ≡ after_word s at → WordScan deviates s p c (i + 1) n
    deviating_next is n place = word_scan_next deviates s p k c i at x more scan n place (differ_nowhere (answer G (word_at s at)) (recorded_for rs (word_at s at)) d e is)

-- the next word's place
pub place_after : (s : List ℕ) (p i at n : ℕ) → at ≡ word_place s p i → n ≡ after_word s at → n ≡ word_place s p (i + 1)
place_after s p i at n here place = rw (place, here, add-one i) (sym (place_next s p i))

-- the test at hand is served
pub served_word : (s : List ℕ) (p k c i at : ℕ) (sheet label first next value : List ℕ) → WordsLeft s p k c i at → i < c → Served sheet k (words_at s p c) label first next value
    → Answered sheet k (word_at s at) label first next value
served_word s p k c i at sheet label first next value x more served =
    record { records = served.records; filed = served.filed; there = served.there (word_at s at) (word_among s p k c i at x more) }

-- the first word's
pub place_first : (s : List ℕ) (p : ℕ) → p ≡ word_place s p 0
unfolding word_place
place_first s p = refl
