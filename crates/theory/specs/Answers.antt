-- Document 01, "What the proofs owe us": each promise allows one answer and one output, for all inputs, and allows some. An
-- answer is determined by its number, its file and its values, as it can be made from them again.
use Rattle.std.specs.Prelude.{ℕ, ◌<◌, ◌≡◌, refl, List, cond, leb, eqb, get_or}
use Rattle.std.proofs.Common.{arith, sym, ◌∙◌, ap, ne_eqb}
use Rattle.rules.specs.declared.File.{File}
use Rattle.rules.specs.declared.File.TheVariants.{Dossier, Unit as UnitFile, Sheet, Output as OutputFile, Number, Text}
use Rattle.rules.specs.declared.Fault.{Fault}
use Rattle.rules.specs.declared.Fault.TheVariants.{TooLong, CutShort, BadNumbers, BadTable, BadWord, Trailing}
use Rattle.rules.specs.declared.Refusal.{Refusal}
use Rattle.rules.specs.declared.Refusal.TheVariants.{Malformed, NoEmptyWord, Unreached, NoSeparator, NotSeparated, Missing, Repeated, Foreign, Absent, OtherInputs, TooManyStates, NoRoom, NotReduced, BadLine, Contradiction, Incomplete}
use Rattle.rules.specs.declared.Checked.{Checked}
use Rattle.rules.specs.declared.Checked.TheVariants.{Accepted, Refused as CheckRefused}
use Rattle.rules.specs.declared.Built.{Built}
use Rattle.rules.specs.declared.Built.TheVariants.{Written, Refused as BuildRefused}
use Rattle.rules.specs.declared.Ran.{Ran}
use Rattle.rules.specs.declared.Ran.TheVariants.{Passes, Fails, Refused as RunRefused}
use Rattle.rules.specs.declared.Compared.{Compared}
use Rattle.rules.specs.declared.Compared.TheVariants.{Equal, Differs, Refused as CompareRefused}
use Rattle.rules.specs.declared.Judged.{Judged}
use Rattle.rules.specs.declared.Judged.TheVariants.{Agrees, Deviates, Refused as JudgeRefused}
use Rattle.rules.specs.declared.Costed.{Costed}
use Rattle.rules.specs.declared.Costed.TheVariants.{Cost, Refused as CostRefused}
use Rattle.rules.specs.declared.Found.{Found}
use Rattle.rules.specs.declared.Found.TheVariants.{Written as FoundWritten, Refused as FindRefused}
use Rattle.rules.specs.declared.Imported.{Imported}
use Rattle.rules.specs.declared.Imported.TheVariants.{Written as ImportWritten, Refused as ImportRefused}
use Rattle.rules.specs.Answers.{Said, file_number, fault_number, number_of, golden_state, unit_state, input_of, refusing, check_says, build_says, run_says, compare_says, judge_says, cost_says, find_says, import_says}
use Rattle.rules.specs.Operations.{check_answer, build_answer, build_output, run_answer, compare_answer, compare_output, judge_answer, part_of, judged_part, cost_answer}
use Rattle.rules.specs.Find.{find_answer, find_output}
use Rattle.rules.specs.Kiss2.{read_kiss2_answer, read_kiss2_output}
use Rattle.rules.specs.Promises.{CheckPromise, BuildPromise, RunPromise, ComparePromise, JudgePromise, JudgeWordPromise, CostPromise, FindPromise, ReadKiss2Promise, LinePromise}
use Rattle.rules.specs.Line.{run_line}

-- the value at a place
abbrev pub value : Said → ℕ → ℕ
value s i = get_or s.values i 0

abbrev pub fault_said : ℕ → Fault
fault_said n = cond (eqb n 1) TooLong (cond (eqb n 2) CutShort (cond (eqb n 3) BadNumbers (cond (eqb n 4) BadTable (cond (eqb n 5) BadWord Trailing))))

abbrev pub file_said : ℕ → File
file_said n = cond (eqb n 1) Dossier (cond (eqb n 2) UnitFile (cond (eqb n 3) Sheet (cond (eqb n 4) OutputFile (cond (eqb n 5) Text Number))))

-- the refusal that has a number, a file and values
abbrev pub refusal_said : Said → Refusal
refusal_said s =
    let n = s.number in
    let v = value s in
    cond (leb n 6) (Malformed (fault_said n) (file_said s.file) (v 0))
    (cond (eqb n 7) NoEmptyWord
    (cond (eqb n 8) (Unreached (file_said s.file) (golden_state (v 0)))
    (cond (eqb n 9) NoSeparator
    (cond (eqb n 10) (NotSeparated (golden_state (v 0)) (golden_state (v 1)))
    (cond (eqb n 11)
    (Missing (v 0) (record { len = v 1; a = record { 0 = v 2 }; b = record { 0 = v 3 }; c = record { 0 = v 4 }; d = record { 0 = v 5 }; e = record { 0 = v 6 } }) (v 7))
    (cond (eqb n 12) (Repeated (v 0))
    (cond (eqb n 13) (Foreign (v 0))
    (cond (eqb n 14) (Absent (v 0))
    (cond (eqb n 15) OtherInputs
    (cond (eqb n 16) TooManyStates
    (cond (eqb n 17) (NoRoom (v 0))
    (cond (eqb n 18) (NotReduced (golden_state (v 0)) (golden_state (v 1)))
    (cond (eqb n 19) (BadLine (v 0))
    (cond (eqb n 20) (Contradiction (v 0)) (Incomplete (unit_state (v 0)) (input_of (v 1)))))))))))))))))

fault_said_lem : (fault : Fault) (f : File) (p : ℕ) → file_said (file_number f) ≡ f → refusal_said (refusing (Malformed fault f p)) ≡ Malformed fault f p
fault_said_lem TooLong f p e = rw e
fault_said_lem CutShort f p e = rw e
fault_said_lem BadNumbers f p e = rw e
fault_said_lem BadTable f p e = rw e
fault_said_lem BadWord f p e = rw e
fault_said_lem Trailing f p e = rw e

file_said_lem : (f : File) → file_said (file_number f) ≡ f
file_said_lem Dossier = refl
file_said_lem UnitFile = refl
file_said_lem Sheet = refl
file_said_lem OutputFile = refl
file_said_lem Number = refl
file_said_lem Text = refl

-- Number, file and values determine a refusal.
pub refusal_said_lem : (r : Refusal) → refusal_said (refusing r) ≡ r
refusal_said_lem (Malformed fault f p) = fault_said_lem fault f p (file_said_lem f)
refusal_said_lem NoEmptyWord = refl
refusal_said_lem (Unreached f q) = rw (file_said_lem f)
refusal_said_lem NoSeparator = refl
refusal_said_lem (NotSeparated p q) = refl
refusal_said_lem (Missing c y s) = refl
refusal_said_lem (Repeated r) = refl
refusal_said_lem (Foreign r) = refl
refusal_said_lem (Absent t) = refl
refusal_said_lem OtherInputs = refl
refusal_said_lem TooManyStates = refl
refusal_said_lem (NoRoom n) = refl
refusal_said_lem (NotReduced p q) = refl
refusal_said_lem (BadLine n) = refl
refusal_said_lem (Contradiction n) = refl
refusal_said_lem (Incomplete q i) = refl

-- no refusal has the number of a verdict
pub fault_numbers : (fault : Fault) → (0 < fault_number fault) × (fault_number fault < 7)
fault_numbers TooLong = (omega arith, omega arith)
fault_numbers CutShort = (omega arith, omega arith)
fault_numbers BadNumbers = (omega arith, omega arith)
fault_numbers BadTable = (omega arith, omega arith)
fault_numbers BadWord = (omega arith, omega arith)
fault_numbers Trailing = (omega arith, omega arith)

pub refusal_numbers : (r : Refusal) → (0 < number_of r) × (number_of r < 22)
refusal_numbers (Malformed fault f p) = let (a, b) = fault_numbers fault in (a, omega arith)
refusal_numbers NoEmptyWord = (omega arith, omega arith)
refusal_numbers (Unreached f q) = (omega arith, omega arith)
refusal_numbers NoSeparator = (omega arith, omega arith)
refusal_numbers (NotSeparated p q) = (omega arith, omega arith)
refusal_numbers (Missing c y s) = (omega arith, omega arith)
refusal_numbers (Repeated r) = (omega arith, omega arith)
refusal_numbers (Foreign r) = (omega arith, omega arith)
refusal_numbers (Absent t) = (omega arith, omega arith)
refusal_numbers OtherInputs = (omega arith, omega arith)
refusal_numbers TooManyStates = (omega arith, omega arith)
refusal_numbers (NoRoom n) = (omega arith, omega arith)
refusal_numbers (NotReduced p q) = (omega arith, omega arith)
refusal_numbers (BadLine n) = (omega arith, omega arith)
refusal_numbers (Contradiction n) = (omega arith, omega arith)
refusal_numbers (Incomplete q i) = (omega arith, omega arith)

-- an answer of three kinds, by its number
abbrev kind : {A : Type 0} → Said → A → A → (Refusal → A) → A
kind s good bad refused = cond (eqb s.number 0) good (cond (eqb s.number 31) bad (refused (refusal_said s)))

kind-refusing : {A : Type 0} (r : Refusal) (good bad : A) (refused : Refusal → A) → kind (refusing r) good bad refused ≡ refused r
kind-refusing r good bad refused =
    let (a, b) = refusal_numbers r in
    rw (ne_eqb (number_of r) 0 (λ e. omega arith), ne_eqb (number_of r) 31 (λ e. omega arith)) (ap refused (refusal_said_lem r))

abbrev pub check_said : Said → Checked
check_said s = kind s Accepted Accepted CheckRefused

abbrev pub build_said : Said → Built
build_said s = kind s (Written (value s 0)) (Written 0) BuildRefused

abbrev pub run_said : Said → Ran
run_said s = kind s (Passes (value s 0)) (Fails (value s 0) (value s 1)) RunRefused

abbrev pub compare_said : Said → Compared
compare_said s = kind s Equal (Differs (value s 0)) CompareRefused

abbrev pub judge_said : Said → Judged
judge_said s = kind s Agrees (Deviates (value s 0) (value s 1)) JudgeRefused

abbrev pub cost_said : Said → Costed
cost_said s = kind s (Cost (value s 0) (value s 1)) (Cost 0 0) CostRefused

abbrev pub find_said : Said → Found
find_said s = kind s (FoundWritten (value s 0)) (FoundWritten 0) FindRefused

abbrev pub import_said : Said → Imported
import_said s = kind s (ImportWritten (value s 0)) (ImportWritten 0) ImportRefused

pub check_said_lem : (r : Checked) → check_said (check_says r) ≡ r
check_said_lem Accepted = refl
check_said_lem (CheckRefused r) = kind-refusing r _ _ CheckRefused

pub build_said_lem : (r : Built) → build_said (build_says r) ≡ r
build_said_lem (Written n) = refl
build_said_lem (BuildRefused r) = kind-refusing r _ _ BuildRefused

pub run_said_lem : (r : Ran) → run_said (run_says r) ≡ r
run_said_lem (Passes n) = refl
run_said_lem (Fails i j) = refl
run_said_lem (RunRefused r) = kind-refusing r _ _ RunRefused

pub compare_said_lem : (r : Compared) → compare_said (compare_says r) ≡ r
compare_said_lem Equal = refl
compare_said_lem (Differs n) = refl
compare_said_lem (CompareRefused r) = kind-refusing r _ _ CompareRefused

pub judge_said_lem : (r : Judged) → judge_said (judge_says r) ≡ r
judge_said_lem Agrees = refl
judge_said_lem (Deviates i j) = refl
judge_said_lem (JudgeRefused r) = kind-refusing r _ _ JudgeRefused

pub cost_said_lem : (r : Costed) → cost_said (cost_says r) ≡ r
cost_said_lem (Cost n l) = refl
cost_said_lem (CostRefused r) = kind-refusing r _ _ CostRefused

pub find_said_lem : (r : Found) → find_said (find_says r) ≡ r
find_said_lem (FoundWritten n) = refl
find_said_lem (FindRefused r) = kind-refusing r _ _ FindRefused

pub import_said_lem : (r : Imported) → import_said (import_says r) ≡ r
import_said_lem (ImportWritten n) = refl
import_said_lem (ImportRefused r) = kind-refusing r _ _ ImportRefused

-- Number, file and values determine an answer.
pub determined : {A : Type 0} (says : A → Said) (said : Said → A) → ((a : A) → said (says a) ≡ a) → (a b : A) → says a ≡ says b → a ≡ b
determined says said back a b e = sym (back a) ∙ ap said e ∙ back b

-- What a promise allows is the definition's answer, and nothing else.
pub check_answer_lem : (dossier : List ℕ) (r : Checked) → CheckPromise dossier r → r ≡ check_answer dossier
check_answer_lem dossier r = determined check_says check_said check_said_lem r (check_answer dossier)

pub build_answer_lem : (dossier out : List ℕ) (r : Built) (left : List ℕ) → BuildPromise dossier out r left → (r ≡ build_answer dossier out) × (left ≡ build_output dossier out)
build_answer_lem dossier out r left (e, l) = (determined build_says build_said build_said_lem r (build_answer dossier out) e, l)

pub run_answer_lem : (dossier unit : List ℕ) (r : Ran) → RunPromise dossier unit r → r ≡ run_answer dossier unit
run_answer_lem dossier unit r = determined run_says run_said run_said_lem r (run_answer dossier unit)

pub compare_answer_lem : (dossier unit out : List ℕ) (r : Compared) (left : List ℕ) → ComparePromise dossier unit out r left
    → (r ≡ compare_answer dossier unit out) × (left ≡ compare_output dossier unit out)
compare_answer_lem dossier unit out r left (e, l) =
    (determined compare_says compare_said compare_said_lem r (compare_answer dossier unit out) e, l)

pub judge_answer_lem : (dossier sheet : List ℕ) (r : Judged) → JudgePromise dossier sheet r → r ≡ judge_answer dossier sheet
judge_answer_lem dossier sheet r = determined judge_says judge_said judge_said_lem r (judge_answer dossier sheet)

pub cost_answer_lem : (dossier : List ℕ) (r : Costed) → CostPromise dossier r → r ≡ cost_answer dossier
cost_answer_lem dossier r = determined cost_says cost_said cost_said_lem r (cost_answer dossier)

pub find_answer_lem : (unit : List ℕ) (bound : ℕ) (out : List ℕ) (r : Found) (left : List ℕ) → FindPromise unit bound out r left
    → (r ≡ find_answer unit bound out) × (left ≡ find_output unit bound out)
find_answer_lem unit bound out r left (e, l) = (determined find_says find_said find_said_lem r (find_answer unit bound out) e, l)

pub import_answer : (text out : List ℕ) (r : Imported) (left : List ℕ) → ReadKiss2Promise text out r left
    → (r ≡ read_kiss2_answer text out) × (left ≡ read_kiss2_output text out)
import_answer text out r left (e, l) = (determined import_says import_said import_said_lem r (read_kiss2_answer text out) e, l)

-- The promises, each over the inputs of its operation: what an operation may answer and leave in an output.
pub record OneAnswer : Type 0 where
  pub check : (dossier : List ℕ) (r s : Checked) → CheckPromise dossier r → CheckPromise dossier s → r ≡ s
  pub build : (dossier out : List ℕ) (r s : Built) (left after : List ℕ) → BuildPromise dossier out r left → BuildPromise dossier out s after → (r ≡ s) × (left ≡ after)
  pub run : (dossier unit : List ℕ) (r s : Ran) → RunPromise dossier unit r → RunPromise dossier unit s → r ≡ s
  pub compare : (dossier unit out : List ℕ) (r s : Compared) (left after : List ℕ) → ComparePromise dossier unit out r left → ComparePromise dossier unit out s after → (r ≡ s) × (left ≡ after)
  pub judge : (dossier sheet : List ℕ) (r s : Judged) → JudgePromise dossier sheet r → JudgePromise dossier sheet s → r ≡ s
  pub judge_word : (dossier sheet part other : List ℕ) → JudgeWordPromise dossier sheet part → JudgeWordPromise dossier sheet other → part ≡ other
  pub cost : (dossier : List ℕ) (r s : Costed) → CostPromise dossier r → CostPromise dossier s → r ≡ s
  pub find : (unit : List ℕ) (bound : ℕ) (out : List ℕ) (r s : Found) (left after : List ℕ) → FindPromise unit bound out r left → FindPromise unit bound out s after → (r ≡ s) × (left ≡ after)
  pub read_kiss2 : (text out : List ℕ) (r s : Imported) (left after : List ℕ) → ReadKiss2Promise text out r left → ReadKiss2Promise text out s after → (r ≡ s) × (left ≡ after)
  pub line : (golden unit line other : List ℕ) → LinePromise golden unit line → LinePromise golden unit other → line ≡ other

-- Any two results that a promise allows are equal.
pub one_answer : OneAnswer
one_answer =
    record {
      check = λ d r s p q. check_answer_lem d r p ∙ sym (check_answer_lem d s q);
      build = λ d o r s l a p q.
          let (p₀, p₁) = build_answer_lem d o r l p in
          let (q₀, q₁) = build_answer_lem d o s a q in
          (p₀ ∙ sym q₀, p₁ ∙ sym q₁);
      run = λ d u r s p q. run_answer_lem d u r p ∙ sym (run_answer_lem d u s q);
      compare = λ d u o r s l a p q.
          let (p₀, p₁) = compare_answer_lem d u o r l p in
          let (q₀, q₁) = compare_answer_lem d u o s a q in
          (p₀ ∙ sym q₀, p₁ ∙ sym q₁);
      judge = λ d h r s p q. judge_answer_lem d h r p ∙ sym (judge_answer_lem d h s q);
      judge_word = λ d h p q e f. e ∙ sym f;
      cost = λ d r s p q. cost_answer_lem d r p ∙ sym (cost_answer_lem d s q);
      find = λ u m o r s l a p q.
          let (p₀, p₁) = find_answer_lem u m o r l p in
          let (q₀, q₁) = find_answer_lem u m o s a q in
          (p₀ ∙ sym q₀, p₁ ∙ sym q₁);
      read_kiss2 = λ t o r s l a p q.
          let (p₀, p₁) = import_answer t o r l p in
          let (q₀, q₁) = import_answer t o s a q in
          (p₀ ∙ sym q₀, p₁ ∙ sym q₁);
      line = λ g u l m e f. e ∙ sym f;
    }

pub record SomeAnswer : Type 0 where
  pub check : (dossier : List ℕ) → (r : Checked) × CheckPromise dossier r
  pub build : (dossier out : List ℕ) → (r : Built) × (left : List ℕ) × BuildPromise dossier out r left
  pub run : (dossier unit : List ℕ) → (r : Ran) × RunPromise dossier unit r
  pub compare : (dossier unit out : List ℕ) → (r : Compared) × (left : List ℕ) × ComparePromise dossier unit out r left
  pub judge : (dossier sheet : List ℕ) → (r : Judged) × JudgePromise dossier sheet r
  pub judge_word : (dossier sheet : List ℕ) → (part : List ℕ) × JudgeWordPromise dossier sheet part
  pub cost : (dossier : List ℕ) → (r : Costed) × CostPromise dossier r
  pub find : (unit : List ℕ) (bound : ℕ) (out : List ℕ) → (r : Found) × (left : List ℕ) × FindPromise unit bound out r left
  pub read_kiss2 : (text out : List ℕ) → (r : Imported) × (left : List ℕ) × ReadKiss2Promise text out r left
  pub line : (golden unit : List ℕ) → (line : List ℕ) × LinePromise golden unit line

-- Each promise allows some result, for all inputs.
pub some_answer : SomeAnswer
some_answer =
    record {
      check = λ d. (check_answer d, refl);
      build = λ d o. (build_answer d o, build_output d o, (refl, refl));
      run = λ d u. (run_answer d u, refl);
      compare = λ d u o. (compare_answer d u o, compare_output d u o, (refl, refl));
      judge = λ d h. (judge_answer d h, refl);
      judge_word = λ d h. (part_of d (judged_part d h), refl);
      cost = λ d. (cost_answer d, refl);
      find = λ u m o. (find_answer u m o, find_output u m o, (refl, refl));
      read_kiss2 = λ t o. (read_kiss2_answer t o, read_kiss2_output t o, (refl, refl));
      line = λ g u. (run_line g u, refl);
    }
