-- Laws of the line of a judged sheet.
use Prim.Native.Nat.{ℕ, zero, suc, ◌≤◌, ◌<◌}
use native.Mathlib.Omega.{arith}
use mathlib.Core.Path.{◌≡◌, refl, sym, ◌∙◌, ap, subst}
use mathlib.Core.Logic.{◌≢◌}
use mathlib.Core.List.{List, [], ◌∷◌}
use mathlib.Core.Bool.{true, false, not, false≢true}
use mathlib.Core.Option.{Option, none, some}
use borrow.Author.Tests.{not-true}
use lib.ListN.{length, get_or, get_elem?}
use Rattle.rules.specs.declared.Refusal.{Refusal}
use Rattle.rules.specs.declared.Judged.TheVariants.{Refused as JudgeRefused}
use Rattle.rules.specs.Words.{Word, Valid, same, is_in}
use Rattle.rules.specs.Machines.{Machine, machine_of, answer, answer_from}
use Rattle.rules.specs.Files.{DossierData, SheetRecord, golden}
use Rattle.rules.specs.Answers.{refusing}
use Rattle.rules.specs.Operations.{Outcome, fine, refuse, first_difference, pair, recorded_for, Paired, judge, deviating_of, answered, part_of, no_part, deviating_part, judged_part}
use Rattle.rules.specs.Line.{text, line}
use Rattle.theory.specs.Lists.{At, at_in, at_below, some_injective, found_at}
use Rattle.theory.specs.Words.{same_true, same_false, differ_same}
use Rattle.theory.specs.Steps.{first_step}
use Rattle.theory.specs.Pairing.{pair-fine}
use Rattle.theory.specs.Judge.{recorded_for_lem}
use Rattle.theory.specs.Files.{sheet_sized}
use Rattle.theory.specs.Bounds.{Fits, judge_fields_fit}
use Rattle.reader.specs.declared.DossierShape.{DossierShape}
use Rattle.reader.specs.declared.SheetShape.{SheetShape}
use Rattle.reader.specs.Places.{word_at, words_at, machine_at, after_word, outputs_at, after_record, records_at, RecordsAt}
use Rattle.reader.specs.Turns.{words_count}
use Rattle.walker.specs.Walks.{Whole}
use Rattle.walker.proofs.Words.{word-length}
use Rattle.judge.specs.declared.Examined.TheVariants as examined
use Rattle.judge.specs.Verdicts.{Handed, examination, examined_of}
use Rattle.judge.proofs.Examining.{says_judged, test_part_lem}
use Rattle.judge_records.specs.Filed.{words_of}
use Rattle.judge_records.proofs.Looking.{word_of_record}
use Rattle.judge_pairing.specs.Lent.{records_in}
use Rattle.line.proofs.Failing.{valid_wider}
use Rattle.bureau_refusals.specs.Values.{refused_line}
use Rattle.bureau_sheets.specs.Judged.{deviates_of, judgement_line, judge_line, RecordFor, DeviatingAt}

-- The records that are left from p on have the word w, and have for it what all records have.
pub record Looking (s : List ℕ) (k : ℕ) (all : List SheetRecord) (w : Word) (p : ℕ) : Type 0 where
  pub left : ℕ
  pub records : RecordsAt s p k left
  pub there : is_in w (words_of (records_at s p left)) ≡ true
  pub same_answer : recorded_for all w ≡ recorded_for (records_at s p left) w

module _ (s : List ℕ) (k : ℕ) (w : Word) where
  pub looking_start : (p c : ℕ) → RecordsAt s p k c → is_in w (words_of (records_at s p c)) ≡ true → Looking s k (records_at s p c) w p
  looking_start p c records there = record { left = c; records = records; there = there; same_answer = refl }

  module _ (all : List SheetRecord) (p : ℕ) (so_far : Looking s k all w p) where
    -- the next record
    pub looking_here : after_record s p ≤ length s
    unfolding records_at
    looking_here = go so_far.left so_far.records so_far.there
      where
        go : (c : ℕ) → RecordsAt s p k c → is_in w (words_of (records_at s p c)) ≡ true → after_record s p ≤ length s
        go zero records there = absurd (false≢true there)
        go (suc c) (word, inside, records) there = inside

    pub looking_next : same (word_at s p) w ≡ false → Looking s k all w (after_record s p)
    unfolding records_at
    looking_next other = go so_far.left so_far.records so_far.there so_far.same_answer
      where
        go : (c : ℕ) → RecordsAt s p k c → is_in w (words_of (records_at s p c)) ≡ true → recorded_for all w ≡ recorded_for (records_at s p c) w → Looking s k all w (after_record s p)
        go zero records there answer' = absurd (false≢true there)
        go (suc c) (word, inside, records) there answer' =
            let unlike : same w (word_at s p) ≡ false = differ_same {v = w} {w = word_at s p} (λ e. same_false other (sym e)) in
            record { left = c; records = records; there = rw unlike at there; same_answer = rw other at answer' }

    pub looking_found : same (word_at s p) w ≡ true → RecordFor s all w p
    unfolding records_at
    looking_found this = go so_far.left so_far.records so_far.there so_far.same_answer
      where
        go : (c : ℕ) → RecordsAt s p k c → is_in w (words_of (records_at s p c)) ≡ true → recorded_for all w ≡ recorded_for (records_at s p c) w → RecordFor s all w p
        go zero records there answer' = absurd (false≢true there)
        go (suc c) (word, inside, records) there answer' =
            record { inside = inside; word = same_true (word_at s p) w this; recorded = sym (rw this at answer') }

-- an answer to a word differs from as many outputs within it
step_within : (M : Machine) (q : ℕ) (w : Word) (bs : List ℕ) (j : ℕ) → length bs ≤ length w → get_elem? (answer_from M q w) j ≢ get_elem? bs j → j < length w
step_within M q [] [] j long differ = absurd (differ refl)
step_within M q [] (b ∷ bs) j long differ = absurd (omega arith)
step_within M q (a ∷ w) bs zero long differ = omega arith
step_within M q (a ∷ w) [] (suc j) long differ = let h = step_within M (M.next q a) w [] j (omega arith) differ in omega arith
step_within M q (a ∷ w) (b ∷ bs) (suc j) long differ = let h = step_within M (M.next q a) w bs j (omega arith) differ in omega arith

-- what the judge answers, and its line
module _ (s t : List ℕ) where
  pub agrees_told : examined.Agrees ≡ examined_of s t → line (text "AGREES" ∷ []) ≡ judge_line s t
  unfolding judge_line
  agrees_told e = go (judge s t) e
    where
      verdict : (p : Paired) (o : Option (ℕ × Word)) → examined.Agrees ≡ examination p o → line (text "AGREES" ∷ []) ≡ judgement_line p o
      verdict p none e = refl
      verdict p (some (i, w)) e = let z : ◌≡◌ {A = ℕ} 0 1 = cc in absurd (omega arith)

      go : (o : Outcome Paired) → examined.Agrees ≡ answered o (λ p. examination p (deviating_of p)) examined.Refused
          → line (text "AGREES" ∷ []) ≡ answered o (λ p. judgement_line p (deviating_of p)) refused_line
      go (fine p) e = verdict p (deviating_of p) e
      go (refuse f) e = let z : ◌≡◌ {A = ℕ} 0 1 = cc in absurd (omega arith)

  module _ (f : Refusal) (e : examined.Refused f ≡ examined_of s t) where
    pub refused_told : refused_line f ≡ judge_line s t
    unfolding judge_line
    refused_told = go (judge s t) e
      where
        verdict : (p : Paired) (o : Option (ℕ × Word)) → examined.Refused f ≡ examination p o → refused_line f ≡ judgement_line p o
        verdict p none e = let z : ◌≡◌ {A = ℕ} 0 1 = cc in absurd (omega arith)
        verdict p (some (i, w)) e = let z : ◌≡◌ {A = ℕ} 0 1 = cc in absurd (omega arith)

        go : (o : Outcome Paired) → examined.Refused f ≡ answered o (λ p. examination p (deviating_of p)) examined.Refused
            → refused_line f ≡ answered o (λ p. judgement_line p (deviating_of p)) refused_line
        go (fine p) e = verdict p (deviating_of p) e
        go (refuse g) e = ap refused_line (let same_refusal : f ≡ g = cc in same_refusal)

    pub refused_fits : Fits (refusing f)
    refused_fits = judge_fields_fit s t (JudgeRefused f) (says_judged s t (examined.Refused f) (examined.Refused f) e refl)

-- An accepted dossier and a sheet whose records deviate.
module _ (s : List ℕ) (x : DossierShape) (t : List ℕ) (y : SheetShape) (h : Handed s x t y) (i j place size : ℕ) (e : examined.Deviates i j place size ≡ examined_of s t) where
  abbrev d : DossierData
  d = h.dossier

  abbrev rs : List SheetRecord
  rs = h.records

  abbrev both : Paired
  both = record { dossier = d; records = rs }

  pub deviating_at : DeviatingAt s x t y i j
  unfolding judge judge_line
  deviating_at = go (pair d.tests rs) refl
    where
      at_test : pair d.tests rs ≡ fine tt → judge s t ≡ fine both → (w : Word) → deviating_of both ≡ some (i, w) → j ≡ first_difference (answer (golden d) w) (recorded_for rs w) → DeviatingAt s x t y i j
      at_test pairs judged w found step =
          let this = found_at (λ (i, w). not (same (answer (golden d) w) (recorded_for rs w))) d.tests found in
          let belongs = (pair-fine d.tests rs).0 pairs in
          let (r, among, same_word) = belongs.whole w (at_in d.tests i this.here) in
          let recorded : recorded_for rs w ≡ r.recorded = ap (recorded_for rs) (sym same_word) ∙ recorded_for_lem rs belongs.once r among in
          let long : length (recorded_for rs w) ≡ length w =
          ap (λ (l : List ℕ). length l) recorded ∙ (sheet_sized d.inputs t rs h.reads).answers r among ∙ ap (λ (l : Word). length l) same_word in
          let first = first_step (answer (golden d) w) (recorded_for rs w) (same_false (not-true _ this.passes)) in
          let inside = step_within (golden d) 0 w (recorded_for rs w) _ (omega (arith, long)) first.differs in
          record {
            dossier = d;
            test = w;
            stands = h.stands;
            lent = h.lent;
            here = this.here;
            filed = (λ k. is_in (sym same_word k) (words_of (h.are k))) ∙ word_of_record among;
            step = subst (λ (n : ℕ). n < length w) (sym step) inside;
            part =
                ap (λ (o : Outcome Paired). part_of s (answered o (λ p. deviating_part p.dossier (deviating_of p)) (λ r. no_part))) judged
                ∙ ap (λ (o : Option (ℕ × Word)). part_of s (deviating_part d o)) found
                ∙ test_part_lem s d (rw h.shape at h.stands) i w this.here;
            says =
                ap (λ (o : Outcome Paired). answered o (λ p. judgement_line p (deviating_of p)) refused_line) judged
                ∙ ap (λ (o : Option (ℕ × Word)). judgement_line both o) found
                ∙ (λ k. deviates_of i (sym step k) w (get_or (answer (golden d) w) (sym step k) 0) (get_or (recorded_for (sym h.are k) w) (sym step k) 0));
          }

      verdict : pair d.tests rs ≡ fine tt → judge s t ≡ fine both → (o : Option (ℕ × Word)) → deviating_of both ≡ o → examined.Deviates i j place size ≡ examination both o → DeviatingAt s x t y i j
      verdict pairs judged none found e' = let z : ◌≡◌ {A = ℕ} 0 1 = cc in absurd (omega arith)
      verdict pairs judged (some (i', w)) found e' =
          let same_place : i' ≡ i = cc in
          at_test pairs judged w (found ∙ ap (λ (n : ℕ). some (n, w)) same_place) cc

      go : (o : Outcome (Unit {0})) → pair d.tests rs ≡ o → DeviatingAt s x t y i j
      go (refuse f) pairs =
          let refused : examined_of s t ≡ examined.Refused f = rw (h.accepted, h.reads, pairs) in
          let z : ◌≡◌ {A = ℕ} 0 1 = cc (e, refused) in
          absurd (omega arith)
      go (fine done) pairs =
          let judged : judge s t ≡ fine both = rw (h.accepted, h.reads, pairs) in
          verdict pairs judged (deviating_of both) refl (e ∙ rw judged)

-- Where the test and its record stand, and what their line says.
module _ {s : List ℕ} {x : DossierShape} {t : List ℕ} {y : SheetShape} {i j : ℕ} (f : DeviatingAt s x t y i j) where
  pub deviating_number : i < x.count
  deviating_number =
      omega (arith, at_below f.dossier.tests i f.here, words_count s x.tests x.count, ap (λ (ws : List Word). length ws) f.stands.tests_words)

  -- the test stands at p
  module _ (p : ℕ) (at : At (words_at s x.tests x.count) i (word_at s p)) where
    test_is : word_at s p ≡ f.test
    test_is = some_injective (sym at ∙ rw f.stands.tests_words f.here)

    -- what the judge hands back
    pub deviating_part_lem : (v : Word) → v ≡ part_of s (judged_part s t) → v ≡ word_at s p
    deviating_part_lem v is = is ∙ f.part ∙ sym test_is

    pub deviating_step : j < length (word_at s p)
    deviating_step = rw test_is f.step

    pub deviating_filed : is_in (word_at s p) (words_of (records_in t y)) ≡ true
    deviating_filed = rw test_is f.filed

    -- its record stands at q
    module _ (q : ℕ) (found : RecordFor t (records_in t y) (word_at s p) q) where
      pub recorded_step : j < get_or t q 0
      recorded_step =
          let whole : Whole t q = omega (arith, found.inside) in
          omega (arith, word-length t q whole, ap (λ (w : Word). length w) found.word, deviating_step)

      module _ (v : Word) (part : v ≡ word_at s p) where
        pub deviating_spelled : (length v ≤ 200) × Valid 16 v
        deviating_spelled =
            let sized = f.stands.sized.tests f.test (at_in f.dossier.tests i f.here) in
            rw (part, test_is)
            (sized.1, valid_wider f.dossier.inputs 16 f.test f.stands.sized.golden.few_inputs sized.0)

        pub deviating_says : (g r : ℕ) → g ≡ get_or (answer (machine_at s x.table x.inputs x.states) (word_at s p)) j 0
            → r ≡ get_or (outputs_at t (after_word t q) (get_or t q 0)) j 0 → deviates_of i j v g r ≡ judge_line s t
        deviating_says g r expected recorded =
            let golden_is : machine_at s x.table x.inputs x.states ≡ golden f.dossier = λ k. machine_of (f.stands.inputs k) (f.stands.states k) (f.stands.entries k) in
            let g_is : g ≡ get_or (answer (golden f.dossier) f.test) j 0 = expected ∙ (λ k. get_or (answer (golden_is k) (test_is k)) j 0) in
            let r_is : r ≡ get_or (recorded_for (records_in t y) f.test) j 0 = recorded ∙ ap (λ (l : List ℕ). get_or l j 0) found.recorded ∙ ap (λ (w : Word). get_or (recorded_for (records_in t y) w) j 0) test_is in
            (λ k. deviates_of i j ((part ∙ test_is) k) (g_is k) (r_is k)) ∙ sym f.says
