-- Document 01, "Operations and answers" and "Order": what each operation answers, on the bytes lent to it.
use Rattle.std.specs.Prelude.{ℕ, suc, ◌+◌, ◌-◌, Bool, true, false, cond, not, ltb, leb, eqb, length, take, drop}
use mathlib.Core.List.{List, [], ◌∷◌, ◌++◌, map, flat_map}
use Rattle.std.proofs.Math.Option.{Option, none, some}
use Rattle.rules.specs.declared.File.{File}
use Rattle.rules.specs.declared.File.TheVariants.{Dossier, Unit as UnitFile, Sheet}
use Rattle.rules.specs.declared.Fault.TheVariants.{TooLong}
use Rattle.rules.specs.declared.Refusal.{Refusal}
use Rattle.rules.specs.declared.Refusal.TheVariants.{Malformed, NoEmptyWord, Unreached, NoSeparator, NotSeparated, Missing, Repeated, Foreign, Absent, OtherInputs, TooManyStates, NoRoom}
use Rattle.rules.specs.declared.Checked.{Checked}
use Rattle.rules.specs.declared.Checked.TheVariants.{Accepted, Refused as CheckRefused}
use Rattle.rules.specs.declared.Built.{Built}
use Rattle.rules.specs.declared.Built.TheVariants.{Written, Refused as BuildRefused}
use Rattle.rules.specs.declared.Ran.{Ran}
use Rattle.rules.specs.declared.Ran.TheVariants.{Passes, Fails, Refused as RunRefused}
use Rattle.rules.specs.declared.Compared.{Compared}
use Rattle.rules.specs.declared.Compared.TheVariants.{Equal, Differs, Refused as CompareRefused}
use Rattle.rules.specs.declared.Judged.{Judged}
use Rattle.rules.specs.declared.Judged.TheVariants.{Agrees, Deviates, Refused as JudgeRefused}
use Rattle.rules.specs.declared.Costed.{Costed}
use Rattle.rules.specs.declared.Costed.TheVariants.{Cost, Refused as CostRefused}
use Rattle.rules.specs.Lists.{placed, first, sum}
use Rattle.rules.specs.Sizes.{most_dossier_bytes, most_unit_bytes, most_sheet_bytes}
use Rattle.rules.specs.Words.{Word, same, is_in, shortlex}
use Rattle.rules.specs.Machines.{Machine, answer_from, answer}
use Rattle.rules.specs.Files.{DossierData, UnitData, SheetRecord, golden, unit, bound, with_tests, word_bytes, front_bytes, dossier_bytes}
use Rattle.rules.specs.Reading.{Got, got, faulty, Reader, dossier, unit_table, sheet}
use Rattle.rules.specs.Needed.{unreached, unseparated, missing, built_tests}
use Rattle.rules.specs.Answers.{golden_state, middle_of}

-- a result, or the first refusal that was met
pub data Outcome (A : Type 0) : Type 0 where
  fine : A → Outcome A
  refuse : Refusal → Outcome A

abbrev pub ◌>>=◌ : {A B : Type 0} → Outcome A → (A → Outcome B) → Outcome B
◌>>=◌ (fine a) next = next a
◌>>=◌ (refuse r) next = refuse r

abbrev pub ◌>>◌ : {A B : Type 0} → Outcome A → Outcome B → Outcome B
◌>>◌ (fine a) next = next
◌>>◌ (refuse r) next = refuse r

-- the answer that an outcome gives
abbrev pub answered : {A B : Type 0} → Outcome A → (A → B) → (Refusal → B) → B
answered (fine a) verdict refused = verdict a
answered (refuse r) verdict refused = refused r

-- refused unless the test holds
abbrev pub require : Bool → Refusal → Outcome (Unit {0})
require true r = fine tt
require false r = refuse r

-- refused where something was found
abbrev pub require_none : {A : Type 0} → Option A → (A → Refusal) → Outcome (Unit {0})
require_none none r = fine tt
require_none (some a) r = refuse (r a)

-- 1 to 6. TOO LONG comes before any byte is read.
abbrev pub opened : {A : Type 0} → File → Got A → Outcome A
opened f (got a p l) = fine a
opened f (faulty fault p) = refuse (Malformed fault f p)

unfoldable pub read_file : {A : Type 0} → File → ℕ → Reader A → List ℕ → Outcome A
read_file f most read bytes = cond (ltb most (length bytes)) (refuse (Malformed TooLong f 0)) (opened f (read 0 bytes))

abbrev pub read_dossier : List ℕ → Outcome DossierData
read_dossier bytes = read_file Dossier most_dossier_bytes dossier bytes

abbrev pub read_unit : List ℕ → Outcome UnitData
read_unit bytes = read_file UnitFile most_unit_bytes unit_table bytes

abbrev pub read_sheet : ℕ → List ℕ → Outcome (List SheetRecord)
read_sheet k bytes = read_file Sheet most_sheet_bytes (sheet k) bytes

-- 7 to 10
unfoldable pub sound : DossierData → Outcome (Unit {0})
sound d = do
  require (is_in [] d.cover) NoEmptyWord
  require_none (unreached d) (λ q. Unreached Dossier (golden_state q))
  require (ltb 0 (length d.separating)) NoSeparator
  require_none (unseparated d) (λ (p, q). NotSeparated (golden_state p) (golden_state q))

-- 11
unfoldable pub enough : DossierData → Outcome (Unit {0})
enough d = require_none (missing d) (λ x. Missing x.cover_place (middle_of x.middle) x.separator_place)

-- the accepted dossier: 1 to 11
unfoldable pub check : List ℕ → Outcome DossierData
check bytes = do
  d ← read_dossier bytes
  sound d
  enough d
  fine d

abbrev pub check_answer : List ℕ → Checked
check_answer bytes = answered (check bytes) (λ d. Accepted) CheckRefused

-- 17, where w is to be written at the front of an output
abbrev pub fits : List ℕ → List ℕ → Outcome (Unit {0})
fits w out = require (leb (length w) (length out)) (NoRoom (length w))

-- the output with w at its front; later bytes stay
abbrev pub overwritten : List ℕ → List ℕ → List ℕ
overwritten w out = w ++ drop (length w) out

-- 17, where the bytes of a dossier are to be written: 65,536 for any dossier over its size
abbrev pub writable : List ℕ → List ℕ → Outcome (List ℕ)
writable bytes out = do
  require (leb (length bytes) most_dossier_bytes) (NoRoom (suc most_dossier_bytes))
  fits bytes out
  fine bytes

-- what build writes: 1 to 10, then 17
unfoldable pub build : List ℕ → List ℕ → Outcome (List ℕ)
build bytes out = do
  d ← read_dossier bytes
  sound d
  writable (dossier_bytes (with_tests d (built_tests d))) out

abbrev pub build_answer : List ℕ → List ℕ → Built
build_answer bytes out = answered (build bytes out) (λ built. Written (length built)) BuildRefused

abbrev pub build_output : List ℕ → List ℕ → List ℕ
build_output bytes out = answered (build bytes out) (λ built. overwritten built out) (λ r. out)

-- the first place at which two answers differ
abbrev pub first_difference : List ℕ → List ℕ → ℕ
first_difference [] bs = 0
first_difference (a ∷ as') [] = 0
first_difference (a ∷ as') (b ∷ bs) = cond (eqb a b) (suc (first_difference as' bs)) 0

-- the first test in dossier order, with its place, that two machines answer differently
abbrev pub failing : Machine → Machine → List Word → Option (ℕ × Word)
failing G U tests = first (λ (i, t). not (same (answer G t) (answer U t))) (placed tests)

pub record Trial : Type 0 where
  pub dossier : DossierData
  pub unit : UnitData

-- an accepted dossier and a unit that it can try: all of check, the unit's 1 to 6, 15, 16
unfoldable pub run : List ℕ → List ℕ → Outcome Trial
run dossier_file unit_file = do
  d ← check dossier_file
  u ← read_unit unit_file
  require (eqb d.inputs u.inputs) OtherInputs
  require (leb u.states (bound d)) TooManyStates
  fine (record { dossier = d; unit = u })

abbrev pub failing_of : Trial → Option (ℕ × Word)
failing_of t = failing (golden t.dossier) (unit t.unit) t.dossier.tests

-- PASSES, or FAILS with the test that was found
abbrev pub verdict : Trial → Option (ℕ × Word) → Ran
verdict t none = Passes (length t.dossier.tests)
verdict t (some (i, w)) = Fails i (first_difference (answer (golden t.dossier) w) (answer (unit t.unit) w))

abbrev pub run_answer : List ℕ → List ℕ → Ran
run_answer dossier_file unit_file = answered (run dossier_file unit_file) (λ t. verdict t (failing_of t)) RunRefused

-- The shortest word over k inputs that two states, of one machine or of two, answer differently, among equals the first by
-- inputs. It is looked for among the words of at most b inputs.
abbrev pub telling_from : ℕ → ℕ → Machine → ℕ → Machine → ℕ → Option Word
telling_from k b G p U q = first (λ w. not (same (answer_from G p w) (answer_from U q w))) (shortlex k b)

-- The shortest word that tells golden and unit apart, among equals the first by inputs. Where any does, one of at most
-- n + u - 1 inputs does.
unfoldable pub telling : DossierData → UnitData → Option Word
telling d u = telling_from d.inputs (d.states + u.states - 1) (golden d) 0 (unit u) 0

-- 17, where there is a word to write
abbrev pub fits_if_any : Option Word → List ℕ → Outcome (Unit {0})
fits_if_any none out = fine tt
fits_if_any (some w) out = fits w out

-- the telling word, if there is one: the dossier's 1 to 6, the unit's 1 to 6, 15, 17
unfoldable pub compare : List ℕ → List ℕ → List ℕ → Outcome (Option Word)
compare dossier_file unit_file out = do
  d ← read_dossier dossier_file
  u ← read_unit unit_file
  require (eqb d.inputs u.inputs) OtherInputs
  fits_if_any (telling d u) out
  fine (telling d u)

-- EQUAL, or DIFFERS with the length of the telling word
abbrev pub comparison : Option Word → Compared
comparison none = Equal
comparison (some w) = Differs (length w)

-- EQUAL writes nothing
abbrev pub compared_output : List ℕ → Option Word → List ℕ
compared_output out none = out
compared_output out (some w) = overwritten w out

abbrev pub compare_answer : List ℕ → List ℕ → List ℕ → Compared
compare_answer dossier_file unit_file out = answered (compare dossier_file unit_file out) comparison CompareRefused

abbrev pub compare_output : List ℕ → List ℕ → List ℕ → List ℕ
compare_output dossier_file unit_file out = answered (compare dossier_file unit_file out) (compared_output out) (λ r. out)

-- the place of the first record whose word an earlier record has
unfoldable pub repeated : List SheetRecord → Option (ℕ × SheetRecord)
repeated rs = first (λ (i, r). is_in r.word (map (λ e. e.word) (take i rs))) (placed rs)

-- the first record whose word is no test
unfoldable pub foreign : List Word → List SheetRecord → Option (ℕ × SheetRecord)
foreign tests rs = first (λ (i, r). not (is_in r.word tests)) (placed rs)

-- the first test that has no record
unfoldable pub absent : List Word → List SheetRecord → Option (ℕ × Word)
absent tests rs = first (λ (i, t). not (is_in t (map (λ r. r.word) rs))) (placed tests)

-- records paired with tests by their words: 12, 13, 14
unfoldable pub pair : List Word → List SheetRecord → Outcome (Unit {0})
pair tests rs = do
  require_none (repeated rs) (λ (i, r). Repeated i)
  require_none (foreign tests rs) (λ (i, r). Foreign i)
  require_none (absent tests rs) (λ (i, t). Absent i)

-- the answer that a sheet has for a word
abbrev pub recorded_for : List SheetRecord → Word → List ℕ
recorded_for [] w = []
recorded_for (r ∷ rs) w = cond (same r.word w) r.recorded (recorded_for rs w)

-- the first test in dossier order, with its place, whose recorded answer is not the golden's
abbrev pub deviating : Machine → List SheetRecord → List Word → Option (ℕ × Word)
deviating G rs tests = first (λ (i, t). not (same (answer G t) (recorded_for rs t))) (placed tests)

pub record Paired : Type 0 where
  pub dossier : DossierData
  pub records : List SheetRecord

-- an accepted dossier and a sheet that belongs to it: all of check, the sheet's 1, 2, 5, 6, then 12, 13, 14
unfoldable pub judge : List ℕ → List ℕ → Outcome Paired
judge dossier_file sheet_file = do
  d ← check dossier_file
  rs ← read_sheet d.inputs sheet_file
  pair d.tests rs
  fine (record { dossier = d; records = rs })

abbrev pub deviating_of : Paired → Option (ℕ × Word)
deviating_of p = deviating (golden p.dossier) p.records p.dossier.tests

-- AGREES, or DEVIATES with the test that was found
abbrev pub judgement : Paired → Option (ℕ × Word) → Judged
judgement p none = Agrees
judgement p (some (i, t)) = Deviates i (first_difference (answer (golden p.dossier) t) (recorded_for p.records t))

abbrev pub judge_answer : List ℕ → List ℕ → Judged
judge_answer dossier_file sheet_file = answered (judge dossier_file sheet_file) (λ p. judgement p (deviating_of p)) JudgeRefused

-- where a part of a file stands, and its length
pub record Part : Type 0 where
  pub place : ℕ
  pub size : ℕ

abbrev pub no_part : Part
no_part = record { place = 0; size = 0 }

abbrev pub part_of : List ℕ → Part → List ℕ
part_of bytes p = take p.size (drop p.place bytes)

-- where the inputs of the test at a place stand in a dossier: after the sections before the tests, the tests' count, the tests
-- before it and its own length byte
unfoldable pub test_part : DossierData → ℕ → Word → Part
test_part d i t =
    record {
      place = length (front_bytes d) + 2 + length (flat_map word_bytes (take i d.tests)) + 1;
      size = length t;
    }

-- the test that deviates; with every other answer the part is empty
abbrev pub deviating_part : DossierData → Option (ℕ × Word) → Part
deviating_part d none = no_part
deviating_part d (some (i, t)) = test_part d i t

-- the part of the dossier that the judge hands back
abbrev pub judged_part : List ℕ → List ℕ → Part
judged_part dossier_file sheet_file = answered (judge dossier_file sheet_file) (λ p. deviating_part p.dossier (deviating_of p)) (λ r. no_part)

-- the count of the tests and the sum of their lengths
abbrev pub cost_of : List Word → ℕ × ℕ
cost_of tests = (length tests, sum (map (λ t. length t) tests))

abbrev pub cost_answer : List ℕ → Costed
cost_answer bytes = answered (read_dossier bytes) (λ d. Cost (cost_of d.tests).0 (cost_of d.tests).1) CostRefused
