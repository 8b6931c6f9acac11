-- Document 01, the table of refusals, with 18 to 21 of document 02, L1 and L2; and "If an answer is an enum, a definition states this paper's
-- number and values for each of the enum's cases".
use Rattle.std.specs.Prelude.{ℕ, List, [], ◌∷◌, length, get_or}
use Rattle.rules.specs.declared.GoldenState.{GoldenState}
use Rattle.rules.specs.declared.Middle.{Middle}
use Rattle.rules.specs.declared.File.{File}
use Rattle.rules.specs.declared.File.TheVariants.{Dossier, Unit as UnitFile, Sheet, Output as OutputFile, Number, Text}
use Rattle.rules.specs.declared.Fault.{Fault}
use Rattle.rules.specs.declared.Fault.TheVariants.{TooLong, CutShort, BadNumbers, BadTable, BadWord, Trailing}
use Rattle.rules.specs.declared.Refusal.{Refusal}
use Rattle.rules.specs.declared.Refusal.TheVariants.{Malformed, NoEmptyWord, Unreached, NoSeparator, NotSeparated, Missing, Repeated, Foreign, Absent, OtherInputs, TooManyStates, NoRoom, NotReduced, BadLine, Contradiction, Incomplete}
use Rattle.rules.specs.declared.Checked.{Checked}
use Rattle.rules.specs.declared.Checked.TheVariants.{Accepted, Refused as CheckRefused}
use Rattle.rules.specs.declared.Built.{Built}
use Rattle.rules.specs.declared.Built.TheVariants.{Written, Refused as BuildRefused}
use Rattle.rules.specs.declared.Ran.{Ran}
use Rattle.rules.specs.declared.Ran.TheVariants.{Passes, Fails, Refused as RunRefused}
use Rattle.rules.specs.declared.Compared.{Compared}
use Rattle.rules.specs.declared.Compared.TheVariants.{Equal, Differs, Refused as CompareRefused}
use Rattle.rules.specs.declared.Judged.{Judged}
use Rattle.rules.specs.declared.Judged.TheVariants.{Agrees, Deviates, Refused as JudgeRefused}
use Rattle.rules.specs.declared.Costed.{Costed}
use Rattle.rules.specs.declared.Costed.TheVariants.{Cost, Refused as CostRefused}
use Rattle.rules.specs.declared.UnitState.{UnitState}
use Rattle.rules.specs.declared.Input.{Input}
use Rattle.rules.specs.declared.Imported.{Imported}
use Rattle.rules.specs.declared.Imported.TheVariants.{Written as ImportWritten, Refused as ImportRefused}
use Rattle.rules.specs.declared.Found.{Found}
use Rattle.rules.specs.declared.Found.TheVariants.{Written as FoundWritten, Refused as FindRefused}
use Rattle.rules.specs.Words.{Word}

abbrev pub golden_state : ℕ → GoldenState
golden_state q = record { 0 = q }

abbrev pub unit_state : ℕ → UnitState
unit_state q = record { 0 = q }

abbrev pub input_of : ℕ → Input
input_of i = record { 0 = i }

-- a word of at most five inputs as a middle; the inputs beyond its length are 0
abbrev pub middle_of : Word → Middle
middle_of w =
    record {
      len = length w;
      a = record { 0 = get_or w 0 0 };
      b = record { 0 = get_or w 1 0 };
      c = record { 0 = get_or w 2 0 };
      d = record { 0 = get_or w 3 0 };
      e = record { 0 = get_or w 4 0 };
    }

abbrev pub file_number : File → ℕ
file_number Dossier = 1
file_number UnitFile = 2
file_number Sheet = 3
file_number OutputFile = 4
file_number Text = 5
file_number Number = 6

abbrev pub fault_number : Fault → ℕ
fault_number TooLong = 1
fault_number CutShort = 2
fault_number BadNumbers = 3
fault_number BadTable = 4
fault_number BadWord = 5
fault_number Trailing = 6

-- the number of a refusal
abbrev pub number_of : Refusal → ℕ
number_of (Malformed fault f p) = fault_number fault
number_of NoEmptyWord = 7
number_of (Unreached f q) = 8
number_of NoSeparator = 9
number_of (NotSeparated p q) = 10
number_of (Missing c y s) = 11
number_of (Repeated r) = 12
number_of (Foreign r) = 13
number_of (Absent t) = 14
number_of OtherInputs = 15
number_of TooManyStates = 16
number_of (NoRoom n) = 17
number_of (NotReduced p q) = 18
number_of (BadLine n) = 19
number_of (Contradiction n) = 20
number_of (Incomplete q i) = 21

-- the file that it concerns
abbrev pub file_of : Refusal → File
file_of (Malformed fault f p) = f
file_of NoEmptyWord = Dossier
file_of (Unreached f q) = f
file_of NoSeparator = Dossier
file_of (NotSeparated p q) = Dossier
file_of (Missing c y s) = Dossier
file_of (Repeated r) = Sheet
file_of (Foreign r) = Sheet
file_of (Absent t) = Sheet
file_of OtherInputs = UnitFile
file_of TooManyStates = UnitFile
file_of (NoRoom n) = OutputFile
file_of (NotReduced p q) = UnitFile
file_of (BadLine n) = Text
file_of (Contradiction n) = Text
file_of (Incomplete q i) = Text

-- what is also returned; of a middle, its length and five inputs
abbrev pub values_of : Refusal → List ℕ
values_of (Malformed fault f p) = p ∷ []
values_of NoEmptyWord = []
values_of (Unreached f q) = q.0 ∷ []
values_of NoSeparator = []
values_of (NotSeparated p q) = p.0 ∷ q.0 ∷ []
values_of (Missing c y s) = c ∷ y.len ∷ y.a.0 ∷ y.b.0 ∷ y.c.0 ∷ y.d.0 ∷ y.e.0 ∷ s ∷ []
values_of (Repeated r) = r ∷ []
values_of (Foreign r) = r ∷ []
values_of (Absent t) = t ∷ []
values_of OtherInputs = []
values_of TooManyStates = []
values_of (NoRoom n) = n ∷ []
values_of (NotReduced p q) = p.0 ∷ q.0 ∷ []
values_of (BadLine n) = n ∷ []
values_of (Contradiction n) = n ∷ []
values_of (Incomplete q i) = q.0 ∷ i.0 ∷ []

-- What an answer says: its number, the number of the file that it concerns, and its values. A verdict concerns no file: 0. A
-- verdict's number is 0, or 31 where something differs; no refusal has either.
pub record Said : Type 0 where
  pub number : ℕ
  pub file : ℕ
  pub values : List ℕ

abbrev pub well : List ℕ → Said
well values = record { number = 0; file = 0; values = values }

abbrev pub differing : List ℕ → Said
differing values = record { number = 31; file = 0; values = values }

abbrev pub refusing : Refusal → Said
refusing r = record { number = number_of r; file = file_number (file_of r); values = values_of r }

abbrev pub check_says : Checked → Said
check_says Accepted = well []
check_says (CheckRefused r) = refusing r

abbrev pub build_says : Built → Said
build_says (Written n) = well (n ∷ [])
build_says (BuildRefused r) = refusing r

abbrev pub run_says : Ran → Said
run_says (Passes tests) = well (tests ∷ [])
run_says (Fails test step) = differing (test ∷ step ∷ [])
run_says (RunRefused r) = refusing r

abbrev pub compare_says : Compared → Said
compare_says Equal = well []
compare_says (Differs n) = differing (n ∷ [])
compare_says (CompareRefused r) = refusing r

abbrev pub judge_says : Judged → Said
judge_says Agrees = well []
judge_says (Deviates test step) = differing (test ∷ step ∷ [])
judge_says (JudgeRefused r) = refusing r

abbrev pub cost_says : Costed → Said
cost_says (Cost tests inputs) = well (tests ∷ inputs ∷ [])
cost_says (CostRefused r) = refusing r

abbrev pub find_says : Found → Said
find_says (FoundWritten n) = well (n ∷ [])
find_says (FindRefused r) = refusing r

abbrev pub import_says : Imported → Said
import_says (ImportWritten n) = well (n ∷ [])
import_says (ImportRefused r) = refusing r
