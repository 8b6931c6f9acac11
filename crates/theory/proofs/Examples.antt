-- The premises of the theorems can be met: each theorem at document 01's worked pieces. `built2` and `built3` are the built dossiers
-- of G for m = 2 and m = 3, `unit_v` is the unit V, and `sheet2` the sheet for m = 2.
use Rattle.std.specs.Prelude.{ℕ, zero, suc, take, drop, replicate, ◌≡◌, refl, ◌↔◌, ◌≢◌, ◌⊎◌, List, [], ◌∷◌, ◌++◌, Bool, true, false, cond, ltb, eqb}
use Rattle.std.proofs.Common.{add_comm, arith, sym, ◌∙◌, ap, ltb-true}
use Rattle.rules.specs.declared.Ran.TheVariants.{Passes, Fails}
use Rattle.rules.specs.declared.Compared.TheVariants.{Equal as Alike, Differs}
use Rattle.rules.specs.declared.Judged.TheVariants.{Agrees}
use Rattle.rules.specs.declared.Fault.TheVariants.{BadNumbers, BadWord, Trailing}
use Rattle.rules.specs.Lists.{all}
use Rattle.rules.specs.Words.{Word, Valid, same}
use Rattle.rules.specs.Machines.{answer}
use Rattle.rules.specs.Files.{DossierData, SheetRecord, golden, unit, sheet_bytes}
use Rattle.rules.specs.Operations.{fine, read_dossier, read_sheet, run_answer, compare_answer, judge_answer, part_of, judged_part}
use Rattle.rules.specs.declared.Built.TheVariants.{Written, Refused}
use Rattle.rules.specs.declared.Refusal.TheVariants.{NoRoom}
use Rattle.rules.specs.Answers.{check_says, build_says, run_says, compare_says, judge_says, find_says}
use Rattle.rules.specs.Starred.{built2, built3, unit_g, unit_v, sheet2, sheet2', sheet_v, data_g2, data_g3, data_v, records2, records2', records_v, starred}
use Rattle.theory.specs.Lists.{At, all_true}
use Rattle.theory.specs.Words.{same_true}
use Rattle.theory.specs.Reordering.{Reordered, times_append, SameVerdict, order_does_not_matter, allowed_order_does_not_matter, reordered_does_not_matter}
use Rattle.theory.specs.Sized.{Bytes, SizedDossier}
use Rattle.theory.specs.Machines.{golden_complete}
use Rattle.theory.specs.Numbering.{MachineOver, AtMost, answers}
use Rattle.theory.specs.Files.{dossier_sized, unit_sized}
use Rattle.theory.specs.Texts.{Begun, WrongAt, Short, short_at_seam}
use Rattle.theory.specs.Faults.{NumberAt, FormedDossier, FormedUnit, FormedSheet, DossierSeam, UnitSeam, SheetSeam, dossier_section, unit_section, sheet_section, dossier_faults, unit_faults, sheet_faults}
use Rattle.theory.specs.Judge.{AllGolden, judge_exactly}
use Rattle.theory.specs.Compare.{Equal}
use Rattle.theory.specs.Pairing.{Belongs}
use Rattle.theory.specs.Outcomes.{fine_injective}
use Rattle.theory.specs.Writes.{found_builds}
use Rattle.theory.proofs.Demands.{Covered, SheetOf, tests_settle_every_word, allowed_tests_settle_every_word, tests_settle_any_machine, equal_exactly, passes_exactly_when_equal, allowed_passes_exactly_when_equal, agreeing_sheet_settles, allowed_agreeing_sheet_settles, deviating_sheet_tells, equal_machine_agrees}

-- the sheet with the golden's answers
abbrev true_sheet : List ℕ
true_sheet = sheet2 (0 ∷ 1 ∷ 0 ∷ []) (0 ∷ 0 ∷ 1 ∷ [])

sized-2 : SizedDossier data_g2
sized-2 = dossier_sized built2 data_g2 starred.reads-2

sized-3 : SizedDossier data_g3
sized-3 = dossier_sized built3 data_g3 starred.reads-3

-- G itself is a machine that its dossiers speak of,
covered-2 : Covered data_g2 (golden data_g2)
covered-2 = record { whole = golden_complete sized-2.golden; few = omega arith }

-- and V is one that the dossier for m = 3 speaks of.
covered-V : Covered data_g3 (unit data_v)
covered-V = record { whole = golden_complete (unit_sized unit_v data_v starred.unit_reads).machine; few = omega arith }

-- Complete, at the dossier for m = 2 and G itself.
complete_example : (w : Word) → Valid 2 w → answer (golden data_g2) w ≡ answer (golden data_g2) w
complete_example = tests_settle_every_word built2 data_g2 starred.accepted-2 starred.reads-2 (golden data_g2) covered-2 (λ t m. refl)

-- The same over what the promise of check allows for it.
allowed_complete_example : (w : Word) → Valid 2 w → answer (golden data_g2) w ≡ answer (golden data_g2) w
allowed_complete_example = allowed_tests_settle_every_word built2 data_g2 (ap check_says (sym starred.accepted-2)) starred.reads-2 (golden data_g2) covered-2 (λ t m. refl)

-- G over the set of states `true` and `false`: the last input was 1, or it was not. They are numbered 0 and 1, the state after reset being 1.
abbrev over_bool : MachineOver Bool
over_bool = record { start = false; next = λ s i. eqb i 1; output = λ s i. cond s (cond (eqb i 0) 1 0) 0 }

number_of : Bool → ℕ
number_of true = 0
number_of false = 1

state_of : ℕ → Bool
state_of zero = true
state_of (suc q) = false

two_states : AtMost 2 Bool
unfolding number_of state_of
two_states =
    record {
      number = number_of;
      state = state_of;
      told = elim [ true ↦ refl | false ↦ refl ];
      small = elim [ true ↦ omega arith | false ↦ omega arith ];
    }

-- It answers the tests as G does, and so every word.
any_machine_example : (w : Word) → Valid 2 w → answers over_bool w ≡ answer (golden data_g2) w
any_machine_example =
    tests_settle_any_machine built2 data_g2 starred.accepted-2 starred.reads-2 over_bool two_states
    (λ t m. same_true _ _ (all_true (λ (v : Word). same (answers over_bool v) (answer (golden data_g2) v)) {l = data_g2.tests} refl m))

-- Passes exactly when equal, at the dossier for m = 3 and V, which fails and differs.
passes_example : ((n : ℕ) × (run_answer built3 unit_v ≡ Passes n)) ↔ (compare_answer built3 unit_v [] ≡ Alike)
passes_example =
    passes_exactly_when_equal built3 unit_v [] data_g3 data_v starred.accepted-3 starred.reads-3 starred.unit_reads refl covered-V.few

-- The same of what the promises allow for them: FAILS and DIFFERS.
allowed_example : ((n : ℕ) × (Fails 1 2 ≡ Passes n)) ↔ (Differs 3 ≡ Alike)
allowed_example =
    allowed_passes_exactly_when_equal built3 unit_v (replicate 5 170) (0 ∷ 1 ∷ 0 ∷ replicate 2 170) data_g3 data_v (Fails 1 2) (Differs 3) (ap check_says (sym starred.accepted-3)) starred.reads-3 starred.unit_reads refl covered-V.few
    (ap run_says (sym starred.run-3)) (ap compare_says (sym starred.compare-3.0), sym starred.compare-3.1)

-- Equal exactly when alike on every word, at the same two.
equal_example : (compare_answer built3 unit_v [] ≡ Alike) ↔ Equal 2 (golden data_g3) (unit data_v)
equal_example = equal_exactly built3 unit_v [] data_g3 data_v starred.reads-3 starred.unit_reads refl

-- the true sheet belongs to the dossier for m = 2 and is G's
true_sheet_lem : Belongs data_g2.tests records2 × SheetOf (golden data_g2) records2
true_sheet_lem =
    let (d, rs, fits, all) = (judge_exactly built2 true_sheet Agrees).0 starred.agrees-2 in
    at d rs (fine_injective (sym fits.accepted.0 ∙ starred.reads-2)) fits.reads fits.belongs all
  where
    at : (d : DossierData) (rs : List SheetRecord) → d ≡ data_g2 → read_sheet d.inputs true_sheet ≡ fine rs → Belongs d.tests rs → AllGolden d rs
        → Belongs data_g2.tests records2 × SheetOf (golden data_g2) records2
    at d rs d_is reads belongs all =
        let rs_is : rs ≡ records2 = fine_injective (sym (rw d_is at reads) ∙ starred.sheet_reads) in
        (rw (d_is, rs_is) at belongs, rw (d_is, rs_is) at all)

-- An agreeing sheet settles every word, at the true sheet and G.
agreeing_example : (w : Word) → Valid 2 w → answer (golden data_g2) w ≡ answer (golden data_g2) w
agreeing_example =
    agreeing_sheet_settles built2 true_sheet data_g2 records2 starred.agrees-2 starred.reads-2 starred.sheet_reads (golden data_g2) covered-2 true_sheet_lem.1

-- The same of what the promise allows for them: AGREES.
allowed_agreeing_example : (w : Word) → Valid 2 w → answer (golden data_g2) w ≡ answer (golden data_g2) w
allowed_agreeing_example =
    allowed_agreeing_sheet_settles built2 true_sheet data_g2 records2 Agrees (ap judge_says (sym starred.agrees-2)) starred.reads-2 starred.sheet_reads (golden data_g2) covered-2 true_sheet_lem.1 refl

-- An equal machine's sheet agrees, at the same two.
equal_machine_example : judge_answer built2 true_sheet ≡ Agrees
equal_machine_example =
    equal_machine_agrees built2 true_sheet data_g2 records2 starred.accepted-2 starred.reads-2 starred.sheet_reads true_sheet_lem.0 (golden data_g2) true_sheet_lem.1 (λ w valid. refl)

-- A deviating sheet tells its machine from the golden, at V's sheet.
deviating_example : (t : Word) × At data_g3.tests 1 t × (answer (unit data_v) t ≢ answer (golden data_g3) t)
deviating_example =
    deviating_sheet_tells built3 sheet_v data_g3 records_v 1 2 starred.deviates-V starred.reads-3 starred.sheet_reads-V (unit data_v)
    (λ r m. same_true _ _ (all_true (λ (e : SheetRecord). same (answer (unit data_v) e.word) e.recorded) {l = records_v} refl m))

-- The sheet for m = 2 and another order of its records both read well, and hold the same records.
both_read : (d : DossierData) → read_dossier built2 ≡ fine d → (read_sheet d.inputs true_sheet ≡ fine records2) × (read_sheet d.inputs sheet2' ≡ fine records2')
both_read d reads =
    let is : data_g2 ≡ d = fine_injective (sym starred.reads-2 ∙ reads) in
    rw (← is) (starred.sheet_reads, starred.sheet_reads')

each_as_often : Reordered records2 records2'
each_as_often r = times_append r (take 2 records2) (drop 2 records2) ∙ add_comm _ _ ∙ sym (times_append r (take 1 records2') (drop 1 records2'))

-- Order does not matter, at these two.
order_example : SameVerdict (judge_answer built2 true_sheet) (judge_answer built2 sheet2') × (judged_part built2 true_sheet ≡ judged_part built2 sheet2')
order_example = order_does_not_matter built2 true_sheet sheet2' records2 records2' both_read each_as_often

-- The same of what the promises allow for them: AGREES, and the part that goes with it.
allowed_order_example : SameVerdict Agrees Agrees × (part_of built2 (judged_part built2 true_sheet) ≡ part_of built2 (judged_part built2 sheet2'))
allowed_order_example =
    allowed_order_does_not_matter built2 true_sheet sheet2' records2 records2' Agrees Agrees _ _ both_read each_as_often
    (ap judge_says (sym starred.agrees-2)) (ap judge_says (sym starred.agrees-2')) refl refl

-- The sheet with its records written out in another order, which reads well by itself.
reordered_example : SameVerdict (judge_answer built2 true_sheet) (judge_answer built2 (sheet_bytes records2')) × (judged_part built2 true_sheet ≡ judged_part built2 (sheet_bytes records2'))
reordered_example = reordered_does_not_matter built2 true_sheet records2 records2' (λ d reads. (both_read d reads).0) each_as_often

-- Files of bytes, refused by 2, 3, 5 and 6.
bytes_of : (l : List ℕ) → all (λ b. ltb b 256) l ≡ true → Bytes l
bytes_of l e b m = ltb-true b 256 (all_true (λ c. ltb c 256) e m)

-- The m = 2 dossier without its last byte is cut short,
abbrev cut_dossier : List ℕ
cut_dossier = take 36 built2

cut_example : Short FormedDossier DossierSeam cut_dossier
cut_example = (dossier_faults cut_dossier (bytes_of cut_dossier refl) (omega arith)).cut_short.0 starred.cut_short.1

-- that is: all of it begins a well_formed dossier, and it is none;
begun_example : Begun FormedDossier DossierSeam cut_dossier × (FormedDossier cut_dossier → ⊥)
begun_example = (short_at_seam FormedDossier DossierSeam cut_dossier (omega arith)).0 cut_example

-- and with an input 2 there it goes wrong at that place, in a word.
abbrev wrong_dossier : List ℕ
wrong_dossier = take 36 built2 ++ (2 ∷ [])

wrong_example : WrongAt FormedDossier DossierSeam wrong_dossier 36 × NumberAt FormedDossier dossier_section wrong_dossier 36 BadWord
wrong_example = ((dossier_faults wrong_dossier (bytes_of wrong_dossier refl) (omega arith)).wrong BadWord 36).0 (tt, starred.last_input.1)

-- A unit with a wrong count of numbers goes wrong at 0, and a sheet with a byte too many behind its last record.
unit_example : WrongAt FormedUnit UnitSeam (1 ∷ 0 ∷ 2 ∷ 3 ∷ []) 0 × NumberAt FormedUnit unit_section (1 ∷ 0 ∷ 2 ∷ 3 ∷ []) 0 BadNumbers
unit_example =
    ((unit_faults (1 ∷ 0 ∷ 2 ∷ 3 ∷ []) (bytes_of (1 ∷ 0 ∷ 2 ∷ 3 ∷ []) refl) (omega arith)).wrong BadNumbers 0).0 (tt, starred.unit_count_of_numbers.0)

abbrev long_sheet : List ℕ
long_sheet = sheet2' ++ (0 ∷ [])

sheet_example : WrongAt (FormedSheet 2) SheetSeam long_sheet 21 × NumberAt (FormedSheet 2) sheet_section long_sheet 21 Trailing
sheet_example = ((sheet_faults 2 (omega arith) long_sheet (bytes_of long_sheet refl) (omega arith)).wrong Trailing 21).0 (tt, starred.trailing.3)

-- What find wrote for G as a unit is never refused by 1 to 10, at the bound 2: build answers 37.
found_example : ((n : ℕ) × (Written 37 ≡ Written n)) ⊎ ((n : ℕ) × (Written 37 ≡ Refused (NoRoom n)))
found_example =
    found_builds unit_g 2 (replicate 26 170) _ 26 (ap find_says (sym starred.find-2.0), sym starred.find-2.1) (replicate 37 170) _ (Written 37)
    (ap build_says (sym starred.build-2-fits.0), sym starred.build-2-fits.1)
