-- The line of each operation: the verdict in capitals, then its values; of a refusal, all that it returns.
use Rattle.std.specs.Prelude.{ℕ, ◌≡◌, List, [], ◌∷◌, replicate}
use Rattle.std.proofs.Math.Option.{Option, none, some}
use Rattle.rules.specs.declared.Checked.{Checked}
use Rattle.rules.specs.declared.Checked.TheVariants.{Accepted, Refused as CheckRefused}
use Rattle.rules.specs.declared.Built.{Built}
use Rattle.rules.specs.declared.Built.TheVariants.{Written, Refused as BuildRefused}
use Rattle.rules.specs.declared.Costed.{Costed}
use Rattle.rules.specs.declared.Costed.TheVariants.{Cost, Refused as CostRefused}
use Rattle.rules.specs.declared.Found.{Found}
use Rattle.rules.specs.declared.Found.TheVariants.{Written as FoundWritten, Refused as FindRefused}
use Rattle.rules.specs.declared.Imported.{Imported}
use Rattle.rules.specs.declared.Imported.TheVariants.{Written as ImportWritten, Refused as ImportRefused}
use Rattle.rules.specs.Words.{Word}
use Rattle.rules.specs.Operations.{check_answer, build_answer, build_output, run, failing_of, compare, cost_answer, answered}
use Rattle.rules.specs.Find.{find_answer, find_output}
use Rattle.rules.specs.Kiss2.{read_kiss2_answer, read_kiss2_output}
use Rattle.rules.specs.Line.{text, decimal, line, verdict_line}
use Rattle.bureau_refusals.specs.Values.{spelled, refused_line}
use Rattle.line.specs.Lines.{Says}
use Rattle.bureau_lines.specs.declared.BuiltLine.{BuiltLine}

abbrev pub checked_line : Checked → List ℕ
checked_line Accepted = line (text "ACCEPTED" ∷ [])
checked_line (CheckRefused r) = refused_line r

abbrev pub check_line : List ℕ → List ℕ
check_line dossier_file = checked_line (check_answer dossier_file)

-- the count of tests and the sum of their lengths
abbrev pub costed_line : Costed → List ℕ
costed_line (Cost tests inputs) = line (text "COST" ∷ decimal tests ∷ decimal inputs ∷ [])
costed_line (CostRefused r) = refused_line r

abbrev pub cost_line : List ℕ → List ℕ
cost_line dossier_file = costed_line (cost_answer dossier_file)

-- the length of the dossier that was written
abbrev pub built_line : Built → List ℕ
built_line (Written n) = line (text "BUILT" ∷ decimal n ∷ [])
built_line (BuildRefused r) = refused_line r

-- how many bytes were written
abbrev pub built_length : Built → ℕ
built_length (Written n) = n
built_length (BuildRefused r) = 0

-- the answer's line and length, and the output as build leaves it
pub record BuildLinePromise (dossier_file out : List ℕ) (r : BuiltLine) (left : List ℕ) : Type 0 where
  pub says : Says (built_line (build_answer dossier_file out)) r.line
  pub length : r.length ≡ built_length (build_answer dossier_file out)
  pub output : left ≡ build_output dossier_file out

-- the length of the dossier that was written
abbrev pub found_line : Found → List ℕ
found_line (FoundWritten n) = line (text "FOUND" ∷ decimal n ∷ [])
found_line (FindRefused r) = refused_line r

-- how many bytes were written
abbrev pub found_length : Found → ℕ
found_length (FoundWritten n) = n
found_length (FindRefused r) = 0

-- the answer's line and length, and the output as find leaves it; `bound` is the number that was passed
pub record FindLinePromise (unit_file : List ℕ) (bound : ℕ) (out : List ℕ) (r : BuiltLine) (left : List ℕ) : Type 0 where
  pub says : Says (found_line (find_answer unit_file bound out)) r.line
  pub length : r.length ≡ found_length (find_answer unit_file bound out)
  pub output : left ≡ find_output unit_file bound out

-- the length of the unit that was written
abbrev pub imported_line : Imported → List ℕ
imported_line (ImportWritten n) = line (text "IMPORTED" ∷ decimal n ∷ [])
imported_line (ImportRefused r) = refused_line r

-- how many bytes were written
abbrev pub imported_length : Imported → ℕ
imported_length (ImportWritten n) = n
imported_length (ImportRefused r) = 0

-- the answer's line and length, and the output as the import leaves it
pub record ImportLinePromise (text_file out : List ℕ) (r : BuiltLine) (left : List ℕ) : Type 0 where
  pub says : Says (imported_line (read_kiss2_answer text_file out)) r.line
  pub length : r.length ≡ imported_length (read_kiss2_answer text_file out)
  pub output : left ≡ read_kiss2_output text_file out

-- PASSES and FAILS as the program `run` prints them
unfoldable pub trial_line : List ℕ → List ℕ → List ℕ
trial_line dossier_file unit_file = answered (run dossier_file unit_file) (λ t. verdict_line t (failing_of t)) refused_line

-- room for every telling word
abbrev pub telling_room : List ℕ
telling_room = replicate 127 0

-- the telling word, if there is one
abbrev pub compared_line : Option Word → List ℕ
compared_line none = line (text "EQUAL" ∷ [])
compared_line (some w) = line (text "DIFFERS" ∷ spelled w ∷ [])

unfoldable pub compare_line : List ℕ → List ℕ → List ℕ
compare_line dossier_file unit_file = answered (compare dossier_file unit_file telling_room) compared_line refused_line
