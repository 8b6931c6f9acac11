-- Every value of every answer is small: a place, a state, a record, a test, a step or a length fits 24 bits, and the values of MISSING
-- fit 16, 3 and 4 bits.
use Rattle.std.specs.Prelude.{ℕ, zero, suc, ◌+◌, ◌≤◌, ◌<◌, ◌≡◌, refl, ◌≢◌, not, length, get_or, take}
use Rattle.std.proofs.Common.{arith, sym, ◌∙◌, ap, length-append}
use Rattle.std.proofs.Math.Decide.{dec_le}
use Rattle.std.proofs.Math.Option.{Option, none, some}
use mathlib.Core.List.{List, [], ◌∷◌, map, flat_map}
use Rattle.std.proofs.Math.ListN.{get_elem?}
use Rattle.rules.specs.declared.File.{File}
use Rattle.rules.specs.declared.File.TheVariants.{Dossier, Unit as UnitFile, Sheet, Output as OutputFile, Number, Text}
use Rattle.rules.specs.declared.Fault.{Fault}
use Rattle.rules.specs.declared.Refusal.{Refusal}
use Rattle.rules.specs.declared.Refusal.TheVariants.{Malformed, NoEmptyWord, Unreached, NoSeparator, NotSeparated, Missing, Repeated, Foreign, Absent, OtherInputs, TooManyStates, NoRoom, NotReduced, BadLine, Contradiction, Incomplete}
use Rattle.rules.specs.declared.Checked.{Checked}
use Rattle.rules.specs.declared.Checked.TheVariants.{Accepted, Refused as CheckRefused}
use Rattle.rules.specs.declared.Built.{Built}
use Rattle.rules.specs.declared.Built.TheVariants.{Written, Refused as BuildRefused}
use Rattle.rules.specs.declared.Ran.{Ran}
use Rattle.rules.specs.declared.Ran.TheVariants.{Passes, Fails, Refused as RunRefused}
use Rattle.rules.specs.declared.Judged.{Judged}
use Rattle.rules.specs.declared.Judged.TheVariants.{Agrees, Deviates, Refused as JudgeRefused}
use Rattle.rules.specs.declared.Costed.{Costed}
use Rattle.rules.specs.declared.Costed.TheVariants.{Cost, Refused as CostRefused}
use Rattle.rules.specs.declared.Found.{Found}
use Rattle.rules.specs.declared.Found.TheVariants.{Written as FoundWritten, Refused as FindRefused}
use Rattle.rules.specs.declared.Imported.{Imported}
use Rattle.rules.specs.declared.Imported.TheVariants.{Written as ImportWritten, Refused as ImportRefused}
use Rattle.rules.specs.Machines.{Machine, answer, answer_from}
use Rattle.rules.specs.Sizes.{most_test_word, most_inputs, most_dossier_bytes, most_unit_bytes, most_sheet_bytes}
use Rattle.rules.specs.Lists.{◌∈◌, sum}
use Rattle.rules.specs.Words.{Word, Valid, same}
use Rattle.rules.specs.Files.{DossierData, SheetRecord, golden, word_bytes, count_bytes, words_bytes, front_bytes, dossier_bytes, record_bytes, sheet_bytes}
use Rattle.rules.specs.Reading.{Reader, dossier, unit_table, sheet}
use Rattle.rules.specs.Operations.{Outcome, fine, refuse, read_file, read_dossier, read_unit, read_sheet, recorded_for, Paired, judge, deviating_of, answered, no_part, test_part, deviating_part, judged_part}
use Rattle.rules.specs.Answers.{Said, file_number, well, differing, refusing, check_says, build_says, run_says, judge_says, cost_says, find_says, import_says}
use Rattle.rules.specs.Kiss2.{lines_of}
use Rattle.rules.specs.Promises.{CheckPromise, BuildPromise, RunPromise, JudgePromise, CostPromise, FindPromise, ReadKiss2Promise}
use Rattle.theory.specs.Sized.{SizedDossier, SizedSheet}
use Rattle.theory.specs.Lists.{at_in, at_below, found_at}
use Rattle.theory.specs.Outcomes.{read_refuses}
use Rattle.theory.specs.Files.{Refusals, dossier_refusals, unit_refusals, sheet_refusals, dossier_sized, unit_sized, sheet_sized}
use Rattle.theory.specs.Answers.{value, fault_numbers, check_answer_lem, build_answer_lem, run_answer_lem, judge_answer_lem, cost_answer_lem, find_answer_lem, import_answer}
use Rattle.theory.specs.Spelling.{length_flat_map}
use Rattle.theory.specs.Steps.{FirstStep}
use Rattle.theory.specs.Build
use Rattle.theory.specs.Build.{BuildRefuses, build_exactly}
use Rattle.theory.specs.Find
use Rattle.theory.specs.Find.{FindRefuses, find_exactly}
use Rattle.theory.specs.Kiss2Lines.{few_lines}
use Rattle.theory.specs.Kiss2
use Rattle.theory.specs.Kiss2.{said_in, lines_read, ImportRefuses, good_read, import_exactly}
use Rattle.theory.specs.Kiss2Units.{said-table, said_small, good_text_read}
use Rattle.theory.specs.Run
use Rattle.theory.specs.Run.{RunRefuses, run_exactly, cost_exactly}
use Rattle.theory.specs.Pairing
use Rattle.theory.specs.Pairing.{PairRefuses}
use Rattle.theory.specs.Judge
use Rattle.theory.specs.Judge.{JudgeRefuses, judge_fits, judge_exactly}
use Rattle.theory.specs.Sound.{SoundRefuses, seven, eight, nine, ten}
use Rattle.theory.specs.Check.{EnoughRefuses, CheckRefuses, malformed, unsound, eleven, check_exactly}

-- 24 bits
abbrev pub Small : ℕ → Type 0
Small x = x < 16777216

-- The fields of an answer that is not MISSING.
pub record PlainFits (s : Said) : Type 0 where
  pub few : length s.values ≤ 2
  pub first : Small (value s 0)
  pub second : Small (value s 1)

-- the fields of MISSING: cover place, length and inputs of the middle, separator place
pub record MissingFits (s : Said) : Type 0 where
  pub eight : length s.values ≡ 8
  pub cover : value s 0 < 65536
  pub separator : value s 7 < 65536
  pub long : value s 1 < 8
  pub inputs : (i : ℕ) → i < 5 → value s (2 + i) < 16

pub record Fits (s : Said) : Type 0 where
  pub number : s.number < 32
  pub file : s.file < 8
  pub plain : s.number ≢ 11 → PlainFits s
  pub missing : s.number ≡ 11 → MissingFits s

-- a place of a file that may have so many bytes is small
pub place_small : {A : Type 0} (f : File) (most : ℕ) (read : List ℕ → Outcome A) → Refusals f most read → Small most
    → (bytes : List ℕ) (fault : Fault) (p : ℕ) → read bytes ≡ refuse (Malformed fault f p) → Small p
place_small f most read refusals small bytes fault p e =
    elim (dec_le (length bytes) most) [
      | yes fits ↦ let h = refusals.fault_place bytes fault p e in omega arith
      | no over ↦
          let long = refusals.too_long bytes (omega arith) in
          let same : p ≡ 0 = cc in
          omega arith
    ]

-- words take a byte each and one an input
pub words_long : (ws : List Word) → length (flat_map word_bytes ws) ≡ length ws + sum (map (λ (w : Word). length w) ws)
unfolding flat_map word_bytes
words_long [] = refl
words_long (w ∷ ws) = let ih = words_long ws in rw length-append (omega arith)

pub section_long : (ws : List Word) → length (words_bytes ws) ≡ 2 + (length ws + sum (map (λ (w : Word). length w) ws))
unfolding words_bytes count_bytes
section_long ws = let l = words_long ws in rw length-append (omega arith)

-- so the words of a dossier, and the inputs of all its tests, are at most as many as its bytes
pub counts_small : (d : DossierData) → SizedDossier d
    → (length d.cover < 65536) × (length d.separating < 65536) × (length d.tests < 65536) × (sum (map (λ (w : Word). length w) d.tests) < 65536)
unfolding dossier_bytes front_bytes
counts_small d sized =
    let size = sized.size in
    let c = section_long d.cover in
    let s = section_long d.separating in
    let t = section_long d.tests in
    let size' = rw (length-append, length-append, length-append, length-append, length-append) at size in
    (omega arith, omega arith, omega arith, omega arith)

-- the values of a refusal are small
abbrev pub SmallRefusal : Refusal → Type 0
SmallRefusal (Malformed fault f p) = Small p
SmallRefusal NoEmptyWord = Unit {0}
SmallRefusal (Unreached f q) = Small q.0
SmallRefusal NoSeparator = Unit {0}
SmallRefusal (NotSeparated p q) = Small p.0 × Small q.0
SmallRefusal (Missing c y s) =
    (c < 65536) × (s < 65536) × (y.len < 8) × (y.a.0 < 16) × (y.b.0 < 16) × (y.c.0 < 16) × (y.d.0 < 16) × (y.e.0 < 16)
SmallRefusal (Repeated i) = Small i
SmallRefusal (Foreign i) = Small i
SmallRefusal (Absent i) = Small i
SmallRefusal OtherInputs = Unit {0}
SmallRefusal TooManyStates = Unit {0}
SmallRefusal (NoRoom n) = Small n
SmallRefusal (NotReduced p q) = Small p.0 × Small q.0
SmallRefusal (BadLine n) = Small n
SmallRefusal (Contradiction n) = Small n
SmallRefusal (Incomplete q i) = Small q.0 × Small i.0

-- an answer whose number is not MISSING's
plain_fits : (s : Said) → s.number < 32 → s.file < 8 → s.number ≢ 11 → length s.values ≤ 2 → Small (value s 0) → Small (value s 1) → Fits s
plain_fits s number file other few first second =
    record { number = number; file = file; plain = λ ne. record { few = few; first = first; second = second }; missing = λ e. absurd (other e) }

file_fits : (f : File) → file_number f < 8
file_fits Dossier = omega arith
file_fits UnitFile = omega arith
file_fits Sheet = omega arith
file_fits OutputFile = omega arith
file_fits Number = omega arith
file_fits Text = omega arith

pub refusal_fits : (r : Refusal) → SmallRefusal r → Fits (refusing r)
refusal_fits (Malformed fault f p) h =
    let (a, b) = fault_numbers fault in
    plain_fits (refusing (Malformed fault f p)) (omega arith) (file_fits f) (λ e. omega arith) (omega arith) h (omega arith)
refusal_fits NoEmptyWord h = plain_fits (refusing NoEmptyWord) (omega arith) (omega arith) (λ e. omega arith) (omega arith) (omega arith) (omega arith)
refusal_fits (Unreached f q) h = plain_fits (refusing (Unreached f q)) (omega arith) (file_fits f) (λ e. omega arith) (omega arith) h (omega arith)
refusal_fits NoSeparator h = plain_fits (refusing NoSeparator) (omega arith) (omega arith) (λ e. omega arith) (omega arith) (omega arith) (omega arith)
refusal_fits (NotSeparated p q) (h, h') = plain_fits (refusing (NotSeparated p q)) (omega arith) (omega arith) (λ e. omega arith) (omega arith) h h'
refusal_fits (Missing c y s) (hc, hs, long, ha, hb, hc', hd, he) =
    record {
      number = omega arith;
      file = omega arith;
      plain = λ ne. absurd (ne refl);
      missing = λ e.
          record {
            eight = refl;
            cover = hc;
            separator = hs;
            long = long;
            inputs = elim [
              | zero ↦ λ h. ha
              | suc zero ↦ λ h. hb
              | suc (suc zero) ↦ λ h. hc'
              | suc (suc (suc zero)) ↦ λ h. hd
              | suc (suc (suc (suc zero))) ↦ λ h. he
              | suc (suc (suc (suc (suc i)))) ↦ λ h. absurd (omega arith)
            ];
          };
    }
refusal_fits (Repeated i) h = plain_fits (refusing (Repeated i)) (omega arith) (omega arith) (λ e. omega arith) (omega arith) h (omega arith)
refusal_fits (Foreign i) h = plain_fits (refusing (Foreign i)) (omega arith) (omega arith) (λ e. omega arith) (omega arith) h (omega arith)
refusal_fits (Absent i) h = plain_fits (refusing (Absent i)) (omega arith) (omega arith) (λ e. omega arith) (omega arith) h (omega arith)
refusal_fits OtherInputs h = plain_fits (refusing OtherInputs) (omega arith) (omega arith) (λ e. omega arith) (omega arith) (omega arith) (omega arith)
refusal_fits TooManyStates h = plain_fits (refusing TooManyStates) (omega arith) (omega arith) (λ e. omega arith) (omega arith) (omega arith) (omega arith)
refusal_fits (NoRoom n) h = plain_fits (refusing (NoRoom n)) (omega arith) (omega arith) (λ e. omega arith) (omega arith) h (omega arith)
refusal_fits (NotReduced p q) (h, h') = plain_fits (refusing (NotReduced p q)) (omega arith) (omega arith) (λ e. omega arith) (omega arith) h h'
refusal_fits (BadLine n) h = plain_fits (refusing (BadLine n)) (omega arith) (omega arith) (λ e. omega arith) (omega arith) h (omega arith)
refusal_fits (Contradiction n) h = plain_fits (refusing (Contradiction n)) (omega arith) (omega arith) (λ e. omega arith) (omega arith) h (omega arith)
refusal_fits (Incomplete q i) (h, h') = plain_fits (refusing (Incomplete q i)) (omega arith) (omega arith) (λ e. omega arith) (omega arith) h h'

-- a verdict with at most two values
pub well_fits : (values : List ℕ) → length values ≤ 2 → Small (get_or values 0 0) → Small (get_or values 1 0) → Fits (well values)
well_fits values few first second = plain_fits (well values) (omega arith) (omega arith) (λ e. omega arith) few first second

pub differing_fits : (values : List ℕ) → length values ≤ 2 → Small (get_or values 0 0) → Small (get_or values 1 0) → Fits (differing values)
differing_fits values few first second = plain_fits (differing values) (omega arith) (omega arith) (λ e. omega arith) few first second

-- each input of a word over at most 16 inputs, and the 0 beyond its end
input_small : (k : ℕ) (w : Word) → k ≤ most_inputs → Valid k w → (i : ℕ) → get_or w i 0 < 16
input_small k [] few v i = omega arith
input_small k (a ∷ w) few (h, v) zero = omega arith
input_small k (a ∷ w) few (h, v) (suc i) = input_small k w few v i

-- what reading a dossier, a unit or a sheet refuses with is small
module _ {A : Type 0} (f : File) (most : ℕ) (read : Reader A) (refusals : Refusals f most (read_file f most read)) (small : Small most) where
  pub read_small : (bytes : List ℕ) (r : Refusal) → read_file f most read bytes ≡ refuse r → SmallRefusal r
  read_small bytes r e =
      let (fault, p, is) = read_refuses f most read bytes r e in
      rw is (place_small f most (read_file f most read) refusals small bytes fault p (rw is at e))

pub dossier_small : (bytes : List ℕ) (r : Refusal) → read_dossier bytes ≡ refuse r → SmallRefusal r
dossier_small = read_small Dossier most_dossier_bytes dossier dossier_refusals (omega arith)

pub unit_small : (bytes : List ℕ) (r : Refusal) → read_unit bytes ≡ refuse r → SmallRefusal r
unit_small = read_small UnitFile most_unit_bytes unit_table unit_refusals (omega arith)

pub sheet_small : (k : ℕ) (bytes : List ℕ) (r : Refusal) → read_sheet k bytes ≡ refuse r → SmallRefusal r
sheet_small k = read_small Sheet most_sheet_bytes (sheet k) (sheet_refusals k) (omega arith)

pub sound_small : (d : DossierData) → SizedDossier d → (r : Refusal) → SoundRefuses d r → SmallRefusal r
sound_small d sized r (seven h is) = rw is tt
sound_small d sized r (eight h q low is) = rw is (omega (arith, low.state, sized.golden.few_states))
sound_small d sized r (nine h reached nothing is) = rw is tt
sound_small d sized r (ten h reached separator p q low is) =
    rw is (omega (arith, low.state, low.two, sized.golden.few_states), omega (arith, low.state, sized.golden.few_states))

pub missing_small : (d : DossierData) → SizedDossier d → (r : Refusal) → EnoughRefuses d r → SmallRefusal r
missing_small d sized r e =
    let f = e.first in
    let (covers, separators, tests, inputs) = counts_small d sized in
    let c = at_below d.cover e.cover_place f.front_at in
    let s = at_below d.separating e.separator_place f.back_at in
    let input = input_small d.inputs e.middle sized.golden.few_inputs f.middle.0 in
    rw e.is (omega arith, omega arith, omega (arith, f.middle.1, sized.bound_near), input 0, input 1, input 2, input 3, input 4)

pub check_small : (bytes : List ℕ) (r : Refusal) → CheckRefuses bytes r → SmallRefusal r
check_small bytes r (malformed e) = dossier_small bytes r e
check_small bytes r (unsound d e s) = sound_small d (dossier_sized bytes d e) r s
check_small bytes r (eleven d e s x) = missing_small d (dossier_sized bytes d e) r x

-- The values of every answer that check's promise allows fit.
pub check_fits : (bytes : List ℕ) (r : Checked) → CheckPromise bytes r → Fits (check_says r)
check_fits bytes Accepted p = well_fits [] (omega arith) (omega arith) (omega arith)
check_fits bytes (CheckRefused r) p =
    refusal_fits r (check_small bytes r ((check_exactly bytes (CheckRefused r)).0 (sym (check_answer_lem bytes (CheckRefused r) p))))

-- an answer has as many outputs as the word has inputs
answer_long : (M : Machine) (q : ℕ) (w : Word) → length (answer_from M q w) ≡ length w
answer_long M q [] = refl
answer_long M q (i ∷ w) = ap suc (answer_long M (M.next q i) w)

beyond : (l : List ℕ) (j : ℕ) → length l ≤ j → get_elem? l j ≡ none
beyond [] j h = refl
beyond (a ∷ l) zero h = absurd (omega arith)
beyond (a ∷ l) (suc j) h = beyond l j (omega arith)

-- two answers differ within their length
step_below : {as' bs : List ℕ} {j : ℕ} (most : ℕ) → FirstStep as' bs j → length as' ≤ most → length bs ≤ most → j < most
step_below {as'} {bs} {j} most step ha hb =
    elim (dec_le most j) [
      | yes h ↦ absurd (step.differs (beyond as' j (omega arith) ∙ sym (beyond bs j (omega arith))))
      | no h ↦ omega arith
    ]

build_small : (bytes out : List ℕ) (r : Refusal) → BuildRefuses bytes out r → SmallRefusal r
build_small bytes out r (Build.malformed e) = dossier_small bytes r e
build_small bytes out r (Build.unsound d e s) = sound_small d (dossier_sized bytes d e) r s
build_small bytes out r (Build.over_size d e s over is) = rw is (omega arith)
build_small bytes out r (Build.no_room d e s small short is) = rw is (omega arith)

pub build_fits : (bytes out : List ℕ) (r : Built) (left : List ℕ) → BuildPromise bytes out r left → Fits (build_says r)
build_fits bytes out (Written n) left p =
    let (d, b, is) = (build_exactly bytes out (Written n)).0 (sym (build_answer_lem bytes out (Written n) left p).0) in
    well_fits (n ∷ []) (omega arith) (omega (arith, b.small, is)) (omega arith)
build_fits bytes out (BuildRefused r) left p =
    refusal_fits r (build_small bytes out r ((build_exactly bytes out (BuildRefused r)).0 (sym (build_answer_lem bytes out (BuildRefused r) left p).0)))

run_small : (dossier_file unit_file : List ℕ) (r : Refusal) → RunRefuses dossier_file unit_file r → SmallRefusal r
run_small dossier_file unit_file r (Run.unchecked h) = check_small dossier_file r h
run_small dossier_file unit_file r (Run.malformed_unit d a e) = unit_small unit_file r e
run_small dossier_file unit_file r (Run.fifteen d u a e other is) = rw is tt
run_small dossier_file unit_file r (Run.sixteen d u a e same many is) = rw is tt

pub run_fits : (dossier_file unit_file : List ℕ) (r : Ran) → RunPromise dossier_file unit_file r → Fits (run_says r)
run_fits dossier_file unit_file (Passes n) p =
    let (d, u, tries, is, alike) = (run_exactly dossier_file unit_file (Passes n)).0 (sym (run_answer_lem dossier_file unit_file (Passes n) p)) in
    let (covers, separators, tests, inputs) = counts_small d (dossier_sized dossier_file d tries.accepted.0) in
    well_fits (n ∷ []) (omega arith) (omega (arith, tests, is)) (omega arith)
run_fits dossier_file unit_file (Fails i j) p =
    let (d, u, t, tries, first, step) = (run_exactly dossier_file unit_file (Fails i j)).0 (sym (run_answer_lem dossier_file unit_file (Fails i j) p)) in
    let sized = dossier_sized dossier_file d tries.accepted.0 in
    let (covers, separators, tests, inputs) = counts_small d sized in
    let place = at_below d.tests i first.here in
    let (valid, short) = sized.tests t (at_in d.tests i first.here) in
    let below = step_below most_test_word step (rw answer_long short) (rw answer_long short) in
    differing_fits (i ∷ j ∷ []) (omega arith) (omega (arith, place, tests)) (omega (arith, below))
run_fits dossier_file unit_file (RunRefused r) p =
    refusal_fits r (run_small dossier_file unit_file r ((run_exactly dossier_file unit_file (RunRefused r)).0 (sym (run_answer_lem dossier_file unit_file (RunRefused r) p))))

-- a sheet has at most as many records as bytes
records_small : (k : ℕ) (rs : List SheetRecord) → SizedSheet k rs → Small (length rs)
unfolding sheet_bytes
records_small k rs sized =
    let size = rw length-append at sized.size in
    omega (arith, size, length_flat_map record_bytes record_some rs)
  where
    record_some : (r : SheetRecord) → 0 < length (record_bytes r)
    record_some r = unfold record_bytes word_bytes in (omega arith)

pair_small : (d : DossierData) (rs : List SheetRecord) → SizedDossier d → SizedSheet d.inputs rs → (r : Refusal) → PairRefuses d.tests rs r → SmallRefusal r
pair_small d rs sized sheet_is r (Pairing.twelve i f is) = rw is (omega (arith, records_small d.inputs rs sheet_is, at_below rs i f.here))
pair_small d rs sized sheet_is r (Pairing.thirteen once i f is) = rw is (omega (arith, records_small d.inputs rs sheet_is, at_below rs i f.here))
pair_small d rs sized sheet_is r (Pairing.fourteen once known i f is) =
    let (covers, separators, tests, inputs) = counts_small d sized in
    rw is (omega (arith, tests, at_below d.tests i f.here))

judge_small : (dossier_file sheet_file : List ℕ) (r : Refusal) → JudgeRefuses dossier_file sheet_file r → SmallRefusal r
judge_small dossier_file sheet_file r (Judge.unchecked h) = check_small dossier_file r h
judge_small dossier_file sheet_file r (Judge.malformed_sheet d a e) = sheet_small d.inputs sheet_file r e
judge_small dossier_file sheet_file r (Judge.unpaired d rs a e h) =
    pair_small d rs (dossier_sized dossier_file d a.0) (sheet_sized d.inputs sheet_file rs e) r h

pub judge_fields_fit : (dossier_file sheet_file : List ℕ) (r : Judged) → JudgePromise dossier_file sheet_file r → Fits (judge_says r)
judge_fields_fit dossier_file sheet_file Agrees p = well_fits [] (omega arith) (omega arith) (omega arith)
judge_fields_fit dossier_file sheet_file (Deviates i j) p =
    let (d, rs, fits, f) = (judge_exactly dossier_file sheet_file (Deviates i j)).0 (sym (judge_answer_lem dossier_file sheet_file (Deviates i j) p)) in
    let sized = dossier_sized dossier_file d fits.accepted.0 in
    let sheet_is = sheet_sized d.inputs sheet_file rs fits.reads in
    let (covers, separators, tests, inputs) = counts_small d sized in
    let place = at_below d.tests i f.here in
    let (valid, short) = sheet_is.words f.this f.stands in
    let below = step_below most_test_word f.step (rw answer_long short) (rw (sheet_is.answers f.this f.stands) short) in
    differing_fits (i ∷ j ∷ []) (omega arith) (omega (arith, place, tests)) (omega (arith, below))
judge_fields_fit dossier_file sheet_file (JudgeRefused r) p =
    refusal_fits r (judge_small dossier_file sheet_file r ((judge_exactly dossier_file sheet_file (JudgeRefused r)).0 (sym (judge_answer_lem dossier_file sheet_file (JudgeRefused r) p))))

-- some of a dossier's tests have at most the bytes of all
some_tests : (i : ℕ) (ws : List Word) → length (flat_map word_bytes (take i ws)) ≤ length (flat_map word_bytes ws)
unfolding flat_map word_bytes
some_tests zero ws = omega arith
some_tests (suc i) [] = omega arith
some_tests (suc i) (w ∷ ws) = let ih = some_tests i ws in rw (length-append, length-append) (omega arith)

test_small : (d : DossierData) → SizedDossier d → (i : ℕ) (t : Word) → t ∈ d.tests → Small (test_part d i t).place × Small (test_part d i t).size
unfolding test_part dossier_bytes words_bytes count_bytes
test_small d sized i t m =
    let size = rw (length-append, length-append) at sized.size in
    (omega (arith, size, some_tests i d.tests), omega (arith, (sized.tests t m).1))

-- where the part that the judge hands back stands, and its length
pub judged_part_fits : (dossier_file sheet_file : List ℕ) → Fits (well ((judged_part dossier_file sheet_file).place ∷ (judged_part dossier_file sheet_file).size ∷ []))
judged_part_fits dossier_file sheet_file =
    let (place, size) = go (judge dossier_file sheet_file) refl in
    well_fits ((judged_part dossier_file sheet_file).place ∷ (judged_part dossier_file sheet_file).size ∷ []) (omega arith) place size
  where
    deviates : (p : Paired) → judge dossier_file sheet_file ≡ fine p → (o : Option (ℕ × Word)) → deviating_of p ≡ o
        → Small (deviating_part p.dossier o).place × Small (deviating_part p.dossier o).size
    deviates p judges none is = (omega arith, omega arith)
    deviates p judges (some (i, t)) is =
        let sized = dossier_sized dossier_file p.dossier ((judge_fits dossier_file sheet_file p).0 judges).accepted.0 in
        let found = found_at (λ (i, t). not (same (answer (golden p.dossier) t) (recorded_for p.records t))) p.dossier.tests is in
        test_small p.dossier sized i t (at_in p.dossier.tests i found.here)

    go : (o : Outcome Paired) → judge dossier_file sheet_file ≡ o
        → Small (answered o (λ p. deviating_part p.dossier (deviating_of p)) (λ r. no_part)).place × Small (answered o (λ p. deviating_part p.dossier (deviating_of p)) (λ r. no_part)).size
    go (fine p) judges = deviates p judges (deviating_of p) refl
    go (refuse r) judges = (omega arith, omega arith)

pub cost_fits : (bytes : List ℕ) (r : Costed) → CostPromise bytes r → Fits (cost_says r)
cost_fits bytes (Cost n l) p =
    let (d, reads, is, total) = (cost_exactly bytes (Cost n l)).0 (sym (cost_answer_lem bytes (Cost n l) p)) in
    let (covers, separators, tests, inputs) = counts_small d (dossier_sized bytes d reads) in
    well_fits (n ∷ l ∷ []) (omega arith) (omega (arith, tests, is)) (omega (arith, inputs, total))
cost_fits bytes (CostRefused r) p = refusal_fits r (dossier_small bytes r ((cost_exactly bytes (CostRefused r)).0 (sym (cost_answer_lem bytes (CostRefused r) p))))

find_small : (unit_file : List ℕ) (m : ℕ) (out : List ℕ) (r : Refusal) → FindRefuses unit_file m out r → SmallRefusal r
find_small unit_file m out r (Find.malformed e) = unit_small unit_file r e
find_small unit_file m out r (Find.three u e bad is) = rw is (omega arith)
find_small unit_file m out r (Find.eight u e range q low is) = rw is (omega (arith, low.state, (unit_sized unit_file u e).machine.few_states))
find_small unit_file m out r (Find.eighteen u e range all p q low is) =
    let few = (unit_sized unit_file u e).machine.few_states in
    rw is (omega (arith, low.two, low.state), omega (arith, low.state))
find_small unit_file m out r (Find.over_size u d x over is) = rw is (omega arith)
find_small unit_file m out r (Find.no_room u d x small short is) = rw is (omega arith)

pub find_fits : (unit_file : List ℕ) (m : ℕ) (out : List ℕ) (r : Found) (left : List ℕ) → FindPromise unit_file m out r left → Fits (find_says r)
find_fits unit_file m out (FoundWritten n) left p =
    let (u, d, f, is) = (find_exactly unit_file m out (FoundWritten n)).0 (sym (find_answer_lem unit_file m out (FoundWritten n) left p).0) in
    well_fits (n ∷ []) (omega arith) (omega (arith, f.small, is)) (omega arith)
find_fits unit_file m out (FindRefused r) left p =
    refusal_fits r (find_small unit_file m out r ((find_exactly unit_file m out (FindRefused r)).0 (sym (find_answer_lem unit_file m out (FindRefused r) left p).0)))

-- A line has a number of at most 65,535 and the one after the last of at most 65,536; a state is below 64, an input below 16, and a unit
-- has at most 2,054 bytes.
import_small : (text out : List ℕ) (r : Refusal) → ImportRefuses text out r → SmallRefusal r
import_small text out r (Kiss2.one over is) = rw is (omega arith)
import_small text out r (Kiss2.nineteen short i good (line, at, bad) is) = rw is (omega (arith, at_below (lines_of text) i at, few_lines text))
import_small text out r (Kiss2.twenty short i good placed (line, at, against) is) = rw is (omega (arith, at_below (lines_of text) i at, few_lines text))
import_small text out r (Kiss2.lacking short good lacks is) = rw is (omega (arith, few_lines text))
import_small text out r (Kiss2.twenty_one short good whole q i low is) =
    let sized = said-table (said_in text) (lines_read 1 (lines_of text) (said_in text) (good_read text good)) whole in
    rw is (omega (arith, low.state, sized.few_states), omega (arith, low.input, sized.few_inputs))
import_small text out r (Kiss2.no_room g tight is) = rw is (omega (arith, said_small (said_in text) (good_text_read text g) g.whole))

pub import_fits : (text out : List ℕ) (r : Imported) (left : List ℕ) → ReadKiss2Promise text out r left → Fits (import_says r)
import_fits text out (ImportWritten n) left p =
    let (x, is) = (import_exactly text out (ImportWritten n)).0 (sym (import_answer text out (ImportWritten n) left p).0) in
    well_fits (n ∷ []) (omega arith) (omega (arith, is, said_small (said_in text) (good_text_read text x.good) x.good.whole)) (omega arith)
import_fits text out (ImportRefused r) left p =
    refusal_fits r (import_small text out r ((import_exactly text out (ImportRefused r)).0 (sym (import_answer text out (ImportRefused r) left p).0)))
