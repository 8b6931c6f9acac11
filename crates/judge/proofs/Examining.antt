-- Laws that tie what the judge's functions answer to the rules' judge.
use Prim.Native.Nat.{ℕ, ◌+◌, ◌-◌, ◌≤◌}
use native.Mathlib.Omega.{arith}
use mathlib.Core.Path.{◌≡◌, refl, sym, ◌∙◌, ap, subst}
use mathlib.Core.List.{List, flat_map}
use mathlib.Core.Bool.{not}
use mathlib.Core.Option.{Option, none, some}
use lib.ListN.{length, get_or, take, drop}
use Rattle.std.specs.Prelude.{Option as Found, Some, None, Result, Ok, Err}
use Rattle.rules.specs.declared.Judged.{Judged}
use Rattle.rules.specs.declared.Judged.TheVariants as judged
use Rattle.rules.specs.declared.Refusal.{Refusal}
use Rattle.rules.specs.Words.{Word, same}
use Rattle.rules.specs.Machines.{machine_of, answer}
use Rattle.rules.specs.Files.{DossierData, SheetRecord, golden, word_bytes}
use Rattle.rules.specs.Answers.{judge_says}
use Rattle.rules.specs.Operations.{Outcome, fine, refuse, read_sheet, check, first_difference, pair, recorded_for, deviating, Paired, judge, deviating_of, judgement, judge_answer, answered, Part, no_part, part_of, test_part, deviating_part, judged_part}
use Rattle.rules.specs.Promises.{JudgePromise, JudgeWordPromise}
use Rattle.theory.specs.Lists.{At, found_at}
use Rattle.theory.specs.Check.{check_accepts}
use Rattle.theory.specs.Pairing.{NoneRepeated, Belongs, pair-fine}
use Rattle.theory.specs.Judge.{judge_fits}
use Rattle.reader.specs.declared.DossierShape.{DossierShape}
use Rattle.reader.specs.declared.SheetShape.{SheetShape}
use Rattle.reader.specs.Shapes.{dossier_shape, dossier_read, sheet_shape, sheet_read, tests_place}
use Rattle.reader.specs.Places.{word_at, words_at, word_place, machine_at}
use Rattle.reader.specs.Standing.{DossierStands}
use Rattle.reader.proofs.Held.{dossier_stands, sheet_held, sheet_not_held, tests_place_lem}
use Rattle.walker.specs.Walks.{Whole}
use Rattle.walker.proofs.Words.{word-length}
use Rattle.soundness.specs.Lent.{finding_of}
use Rattle.judge_verdict.specs.Deviations.{Served, deviation_of}
use Rattle.judge.specs.declared.Examined.{Examined}
use Rattle.judge.specs.declared.Examined.TheVariants as examined
use Rattle.judge_records.specs.Filed.{Filed}
use Rattle.judge_pairing.specs.Lent.{tests_in, records_in}
use Rattle.judge.specs.Verdicts.{Handed, Matched, examination, examined_of}
use Rattle.judge_records.proofs.Standing.{word_here, word_place_lem}
use Rattle.judge_records.proofs.Looking.{word_of_record}

-- Where the inputs of a test stand.
module _ (s : List ℕ) (d : DossierData) (stands : DossierStands s (dossier_shape d) d) (i : ℕ) (t : Word) (at : At d.tests i t) where
  test_at : At (words_at s (tests_place d) (length d.tests)) i t
  test_at = rw stands.tests_words at

  pub test_whole : Whole s (word_place s (tests_place d) i)
  test_whole = (word_here s (tests_place d) d.inputs (length d.tests) i t stands.tests test_at).0.inside

  pub test_size : length (word_at s (word_place s (tests_place d) i)) ≡ (test_part d i t).size
  unfolding test_part
  test_size = ap length (sym (word_here s (tests_place d) d.inputs (length d.tests) i t stands.tests test_at).1)

  pub test_place : word_place s (tests_place d) i + 1 ≡ (test_part d i t).place
  unfolding test_part
  test_place =
      let place = word_place_lem s (tests_place d) d.inputs (length d.tests) i t stands.tests test_at in
      let same_words = ap (λ (ws : List Word). length (flat_map word_bytes (take i ws))) stands.tests_words in
      omega (arith, tests_place_lem d)

  pub test_inside : (test_part d i t).place + (test_part d i t).size ≤ length s
  test_inside =
      let long = word-length s (word_place s (tests_place d) i) test_whole in
      omega (arith, test_whole, test_size, test_place)

  -- What stands there is the test.
  pub test_part_lem : part_of s (test_part d i t) ≡ t
  unfolding word_at
  test_part_lem =
      let p = word_place s (tests_place d) i in
      let size_is : (test_part d i t).size ≡ get_or s p 0 = sym test_size ∙ word-length s p test_whole in
      (λ k. take (size_is k) (drop (sym test_place k) s))
      ∙ sym (word_here s (tests_place d) d.inputs (length d.tests) i t stands.tests test_at).1

finding_fine : (o : Outcome (Unit {0})) → finding_of o ≡ Ok tt → o ≡ fine tt
finding_fine (fine tt) e = refl
finding_fine (refuse f) e = let z : ◌≡◌ {A = ℕ} 0 1 = cc in absurd (omega arith)

finding_refused : (o : Outcome (Unit {0})) (f : Refusal) → finding_of o ≡ Err f → o ≡ refuse f
finding_refused (fine tt) f e = let z : ◌≡◌ {A = ℕ} 0 1 = cc in absurd (omega arith)
finding_refused (refuse g) f e = cc

-- An accepted dossier and a well_formed sheet, and what pairing them answers.
module _ (s : List ℕ) (x : DossierShape) (t : List ℕ) (y : SheetShape) (h : Handed s x t y) (f : Result (Unit {0}) Refusal) (e : f ≡ finding_of (pair (tests_in s x) (records_in t y))) where
  pub examined_unpaired : (g : Refusal) → f ≡ Err g → examined.Refused g ≡ examined_of s t
  unfolding judge
  examined_unpaired g is =
      let same_pairs : f ≡ finding_of (pair h.dossier.tests h.records) = e ∙ (λ i. finding_of (pair (h.stands.tests_words i) (h.are i))) in
      rw (h.accepted, h.reads, finding_refused (pair h.dossier.tests h.records) g (sym same_pairs ∙ is))

  pub matched : {label first next value : List ℕ} → (f ≡ Ok tt → Filed t x.inputs (records_in t y) label first next value) → f ≡ Ok tt → Matched s x t label first next value
  matched filed is =
      record { shape = y; handed = h; pairs = finding_fine (pair (tests_in s x) (records_in t y)) (sym e ∙ is); filed = filed is }

-- Where the records belong to the dossier.
module _ {s : List ℕ} {x : DossierShape} {t label first next value : List ℕ} (m : Matched s x t label first next value) where
  abbrev h : Handed s x t m.shape
  h = m.handed

  abbrev d : DossierData
  d = h.dossier

  abbrev rs : List SheetRecord
  rs = records_in t m.shape

  belongs : Belongs (tests_in s x) rs
  belongs = (pair-fine (tests_in s x) rs).0 m.pairs

  pub served : Served t x.inputs (tests_in s x) label first next value
  served =
      record {
        records = rs;
        filed = m.filed;
        there = λ w n. let (r, among, same_word) = belongs.whole w n in rw (← same_word) (word_of_record among);
      }

  golden_at_lem : machine_at s x.table x.inputs x.states ≡ golden d
  golden_at_lem = λ i. machine_of (h.stands.inputs i) (h.stands.states i) (h.stands.entries i)

  abbrev both : Paired
  both = record { dossier = d; records = h.records }

  judged_both : judge s t ≡ fine both
  unfolding judge
  judged_both =
      let pairs : pair d.tests h.records ≡ fine tt = sym (λ i. pair (h.stands.tests_words i) (h.are i)) ∙ m.pairs in
      rw (h.accepted, h.reads, pairs)

  module _ (r : Found (ℕ × ℕ × ℕ)) (told : (rs : List SheetRecord) → Filed t x.inputs rs label first next value → NoneRepeated rs
      → r ≡ deviation_of s x.tests (machine_at s x.table x.inputs x.states) rs (deviating (machine_at s x.table x.inputs x.states) rs (tests_in s x))) where
    told_both : r ≡ deviation_of s x.tests (golden d) h.records (deviating_of both)
    told_both =
        told rs m.filed belongs.once
        ∙ (λ i. deviation_of s x.tests (golden_at_lem i) (h.are i) (deviating (golden_at_lem i) (h.are i) (h.stands.tests_words i)))

    pub examined_agrees : r ≡ None → examined.Agrees ≡ examined_of s t
    examined_agrees is = rw judged_both (go (deviating_of both) (sym is ∙ told_both))
      where
        go : (o : Option (ℕ × Word)) → None ≡ deviation_of s x.tests (golden d) h.records o → examined.Agrees ≡ examination both o
        go none e = refl
        go (some (i, w)) e = let z : ◌≡◌ {A = ℕ} 0 1 = cc in absurd (omega arith)

    module _ (i step word : ℕ) (is : r ≡ Some (i, step, word)) where
      -- the test that was found
      abbrev Deviates : Type 0
      Deviates = (w : Word) × (deviating_of both ≡ some (i, w)) × (step ≡ first_difference (answer (golden d) w) (recorded_for h.records w)) × (word ≡ word_place s x.tests i)

      found_test : Deviates
      found_test = go (deviating_of both) refl (sym is ∙ told_both)
        where
          go : (o : Option (ℕ × Word)) → deviating_of both ≡ o → Some (i, step, word) ≡ deviation_of s x.tests (golden d) h.records o → Deviates
          go none is' e = let z : ◌≡◌ {A = ℕ} 0 1 = cc in absurd (omega arith)
          go (some (j, w)) is' e =
              let all : ◌≡◌ {A = ℕ × ℕ × ℕ} (i, step, word) (j, first_difference (answer (golden d) w) (recorded_for h.records w), word_place s x.tests j) = cc in
              let same_place : j ≡ i = sym (ap (λ (p : ℕ × ℕ × ℕ). p.0) all) in
              (w, is' ∙ ap (λ (n : ℕ). some (n, w)) same_place, ap (λ (p : ℕ × ℕ × ℕ). p.1) all, rw (← same_place) (ap (λ (p : ℕ × ℕ × ℕ). p.2) all))

      stands' : DossierStands s (dossier_shape d) d
      stands' = subst (λ x. DossierStands s x d) h.shape h.stands

      word_stands_at : word ≡ word_place s (tests_place d) i
      word_stands_at = found_test.3 ∙ ap (λ (x : DossierShape). word_place s x.tests i) h.shape

      test_here : At d.tests i found_test.0
      test_here = (found_at (λ (i, t). not (same (answer (golden d) t) (recorded_for h.records t))) d.tests found_test.1).here

      pub deviating_whole : Whole s word
      deviating_whole = rw word_stands_at (test_whole s d stands' i found_test.0 test_here)

      pub examined_deviates : (n : ℕ) → n ≡ length (word_at s word) → examined.Deviates i step (word + 1) n ≡ examined_of s t
      examined_deviates n long =
          let place : word + 1 ≡ (test_part d i found_test.0).place = ap (λ (p : ℕ). p + 1) word_stands_at ∙ test_place s d stands' i found_test.0 test_here in
          let size : n ≡ (test_part d i found_test.0).size = long ∙ ap (λ (p : ℕ). length (word_at s p)) word_stands_at ∙ test_size s d stands' i found_test.0 test_here in
          (λ j. examined.Deviates i (found_test.2 j) (place j) (size j)) ∙ rw (judged_both, found_test.1)

-- What was read of the two files.
module _ (s t : List ℕ) (r : Result DossierShape Refusal) (e : r ≡ dossier_read (check s)) where
  pub examined_unchecked : (f : Refusal) → r ≡ Err f → examined.Refused f ≡ examined_of s t
  unfolding judge
  examined_unchecked f is = go (check s) refl e
    where
      go : (o : Outcome DossierData) → check s ≡ o → r ≡ dossier_read o → examined.Refused f ≡ examined_of s t
      go (fine d) checks e' = let z : ◌≡◌ {A = ℕ} 0 1 = cc in absurd (omega arith)
      go (refuse g) checks e' = let same_refusal : f ≡ g = cc in rw (checks, same_refusal)

  module _ (x : DossierShape) (is : r ≡ Ok x) (q : Result SheetShape Refusal) (e₂ : q ≡ sheet_read (read_sheet x.inputs t)) where
    accepted_dossier : (d : DossierData) × (check s ≡ fine d) × (x ≡ dossier_shape d)
    accepted_dossier = go (check s) refl e
      where
        go : (o : Outcome DossierData) → check s ≡ o → r ≡ dossier_read o → (d : DossierData) × (check s ≡ fine d) × (x ≡ dossier_shape d)
        go (fine d) checks e' = (d, checks, cc)
        go (refuse g) checks e' = let z : ◌≡◌ {A = ℕ} 0 1 = cc in absurd (omega arith)

    pub examined_unread : (f : Refusal) → q ≡ Err f → examined.Refused f ≡ examined_of s t
    unfolding judge
    examined_unread f is₂ =
        let (d, checks, shape) = accepted_dossier in
        let reads : read_sheet d.inputs t ≡ refuse f = ap (λ (x : DossierShape). read_sheet x.inputs t) (sym shape) ∙ sheet_not_held x.inputs t q f e₂ is₂ in
        rw (checks, reads)

    pub handed : (y : SheetShape) → q ≡ Ok y → Handed s x t y
    handed y is₂ =
        let (d, checks, shape) = accepted_dossier in
        let (rs, reads, stands) = sheet_held x.inputs t q y e₂ is₂ in
        let place : sheet_shape rs ≡ y = shape_of rs reads in
        record {
          dossier = d;
          accepted = checks;
          stands = subst (λ x. DossierStands s x d) (sym shape) (dossier_stands s d ((check_accepts s d).0 checks).0);
          shape = shape;
          records = rs;
          reads = ap (λ (x : DossierShape). read_sheet x.inputs t) (sym shape) ∙ reads;
          lent = record { size = stands.size; start = omega (arith, ap (λ (y : SheetShape). y.records) place); records = stands.records };
          are = stands.records_are;
        }
      where
        shape_of : (rs : List SheetRecord) → read_sheet x.inputs t ≡ fine rs → sheet_shape rs ≡ y
        shape_of rs reads = let both_held : ◌≡◌ {A = Result SheetShape Refusal} (Ok (sheet_shape rs)) (Ok y) = sym (e₂ ∙ ap sheet_read reads) ∙ is₂ in cc

-- The answers that are read off.
abbrev pub judged_of : Examined → Judged
judged_of examined.Agrees = judged.Agrees
judged_of (examined.Deviates i step place size) = judged.Deviates i step
judged_of (examined.Refused f) = judged.Refused f

abbrev pub part_from : Examined → Part
part_from examined.Agrees = no_part
part_from (examined.Deviates i step place size) = record { place = place; size = size }
part_from (examined.Refused f) = no_part

module _ (s t : List ℕ) where
  judged_same : judged_of (examined_of s t) ≡ judge_answer s t
  judged_same = go (judge s t)
    where
      verdict : (p : Paired) (o : Option (ℕ × Word)) → judged_of (examination p o) ≡ judgement p o
      verdict p none = refl
      verdict p (some (i, w)) = refl

      go : (o : Outcome Paired) → judged_of (answered o (λ p. examination p (deviating_of p)) examined.Refused) ≡ answered o (λ p. judgement p (deviating_of p)) judged.Refused
      go (fine p) = verdict p (deviating_of p)
      go (refuse f) = refl

  part_same : part_from (examined_of s t) ≡ judged_part s t
  part_same = go (judge s t)
    where
      verdict : (p : Paired) (o : Option (ℕ × Word)) → part_from (examination p o) ≡ deviating_part p.dossier o
      verdict p none = refl
      verdict p (some (i, w)) = refl

      go : (o : Outcome Paired) → part_from (answered o (λ p. examination p (deviating_of p)) examined.Refused) ≡ answered o (λ p. deviating_part p.dossier (deviating_of p)) (λ f. no_part)
      go (fine p) = verdict p (deviating_of p)
      go (refuse f) = refl

  module _ (r v : Examined) (e : r ≡ examined_of s t) (is : r ≡ v) where
    pub says_judged : JudgePromise s t (judged_of v)
    says_judged = ap (λ (r : Examined). judge_says (judged_of r)) (sym is ∙ e) ∙ ap judge_says judged_same

    pub part_told : ((part_from v).place ≡ (judged_part s t).place) × ((part_from v).size ≡ (judged_part s t).size)
    part_told =
        let same_part : part_from v ≡ judged_part s t = ap part_from (sym is ∙ e) ∙ part_same in
        (ap (λ (p : Part). p.place) same_part, ap (λ (p : Part). p.size) same_part)

  pub part_inside : (judged_part s t).place + (judged_part s t).size ≤ length s
  part_inside = go (judge s t) refl
    where
      deviates : (p : Paired) → judge s t ≡ fine p → (o : Option (ℕ × Word)) → deviating_of p ≡ o → (deviating_part p.dossier o).place + (deviating_part p.dossier o).size ≤ length s
      deviates p judges none is = omega arith
      deviates p judges (some (i, w)) is =
          let reads = ((judge_fits s t p).0 judges).accepted.0 in
          test_inside s p.dossier (dossier_stands s p.dossier reads) i w (found_at (λ (i, t). not (same (answer (golden p.dossier) t) (recorded_for p.records t))) p.dossier.tests is).here

      go : (o : Outcome Paired) → judge s t ≡ o → (answered o (λ p. deviating_part p.dossier (deviating_of p)) (λ f. no_part)).place + (answered o (λ p. deviating_part p.dossier (deviating_of p)) (λ f. no_part)).size ≤ length s
      go (fine p) judges = deviates p judges (deviating_of p) refl
      go (refuse f) judges = omega arith

  pub part_taken : (start size : ℕ) → start ≡ (judged_part s t).place → size ≡ (judged_part s t).size → JudgeWordPromise s t (take (start + size - start) (drop start s))
  part_taken start size place long = let same_size : start + size - start ≡ (judged_part s t).size = omega arith in rw (same_size, place)
