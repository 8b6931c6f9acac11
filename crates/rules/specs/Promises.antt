-- Document 01, "What the proofs owe us", for the operations of documents 01 and 02: for each public operation the one possible answer and every output byte afterwards.
use Rattle.std.specs.Prelude.{◌≡◌, List, ℕ}
use Rattle.rules.specs.declared.Checked.{Checked}
use Rattle.rules.specs.declared.Built.{Built}
use Rattle.rules.specs.declared.Ran.{Ran}
use Rattle.rules.specs.declared.Compared.{Compared}
use Rattle.rules.specs.declared.Judged.{Judged}
use Rattle.rules.specs.declared.Costed.{Costed}
use Rattle.rules.specs.declared.Found.{Found}
use Rattle.rules.specs.declared.Imported.{Imported}
use Rattle.rules.specs.Answers.{check_says, build_says, run_says, compare_says, judge_says, cost_says, find_says, import_says}
use Rattle.rules.specs.Operations.{check_answer, build_answer, build_output, run_answer, compare_answer, compare_output, judge_answer, part_of, judged_part, cost_answer}
use Rattle.rules.specs.Find.{find_answer, find_output}
use Rattle.rules.specs.Kiss2.{read_kiss2_answer, read_kiss2_output}
use Rattle.rules.specs.Line.{run_line}

abbrev pub CheckPromise : List ℕ → Checked → Type 0
CheckPromise dossier r = check_says r ≡ check_says (check_answer dossier)

-- `out` is the output at the call, `left` what it holds afterwards
abbrev pub BuildPromise : List ℕ → List ℕ → Built → List ℕ → Type 0
BuildPromise dossier out r left = (build_says r ≡ build_says (build_answer dossier out)) × (left ≡ build_output dossier out)

abbrev pub RunPromise : List ℕ → List ℕ → Ran → Type 0
RunPromise dossier unit r = run_says r ≡ run_says (run_answer dossier unit)

abbrev pub ComparePromise : List ℕ → List ℕ → List ℕ → Compared → List ℕ → Type 0
ComparePromise dossier unit out r left =
    (compare_says r ≡ compare_says (compare_answer dossier unit out)) × (left ≡ compare_output dossier unit out)

abbrev pub JudgePromise : List ℕ → List ℕ → Judged → Type 0
JudgePromise dossier sheet r = judge_says r ≡ judge_says (judge_answer dossier sheet)

-- `part` is what the judge hands back
abbrev pub JudgeWordPromise : List ℕ → List ℕ → List ℕ → Type 0
JudgeWordPromise dossier sheet part = part ≡ part_of dossier (judged_part dossier sheet)

abbrev pub CostPromise : List ℕ → Costed → Type 0
CostPromise dossier r = cost_says r ≡ cost_says (cost_answer dossier)

-- `bound` is the number that was passed
abbrev pub FindPromise : List ℕ → ℕ → List ℕ → Found → List ℕ → Type 0
FindPromise unit bound out r left = (find_says r ≡ find_says (find_answer unit bound out)) × (left ≡ find_output unit bound out)

-- `out` is the output at the call, `left` what it holds afterwards
abbrev pub ReadKiss2Promise : List ℕ → List ℕ → Imported → List ℕ → Type 0
ReadKiss2Promise text out r left = (import_says r ≡ import_says (read_kiss2_answer text out)) × (left ≡ read_kiss2_output text out)

-- `line` is what the program `run` prints
abbrev pub LinePromise : List ℕ → List ℕ → List ℕ → Type 0
LinePromise golden unit line = line ≡ run_line golden unit
