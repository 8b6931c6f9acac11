-- Document 01, "Worked pieces": the line that the program `run` prints.
use Rattle.std.specs.Prelude.{ℕ, zero, suc, ◌+◌, ◌/◌, ◌%◌, List, [], ◌∷◌, ◌++◌, map, cond, ltb, length, get_or}
use Prim.Native.Char.{code}
use Prim.Native.String.{String}
use Rattle.std.proofs.Math.Option.{Option, none, some}
use Rattle.rules.specs.declared.File.{File}
use Rattle.rules.specs.declared.File.TheVariants.{Dossier, Unit as UnitFile, Sheet, Output as OutputFile, Number, Text}
use Rattle.rules.specs.declared.Refusal.{Refusal}
use Rattle.rules.specs.declared.Refusal.TheVariants.{Malformed, NoEmptyWord, Unreached, NoSeparator, NotSeparated, Missing, Repeated, Foreign, Absent, OtherInputs, TooManyStates, NoRoom, NotReduced, BadLine, Contradiction, Incomplete}
use Rattle.rules.specs.Words.{Word}
use Rattle.rules.specs.Machines.{answer}
use Rattle.rules.specs.Files.{golden, unit}
use Rattle.rules.specs.Answers.{number_of}
use Rattle.rules.specs.Operations.{Trial, run, failing_of, first_difference, answered}

-- the bytes of a text
abbrev pub text : String → List ℕ
text String.[] = []
text (String.◌∷◌ c s) = code c ∷ text s

-- a digit of a decimal or hexadecimal number; letters are lower case
abbrev pub digit : ℕ → ℕ
digit x = cond (ltb x 10) (48 + x) (87 + x)

-- the last digits of a number in decimal, at most as many as the first argument says
abbrev pub decimal_of : ℕ → ℕ → List ℕ
decimal_of zero x = []
decimal_of (suc most) x = cond (ltb x 10) (digit x ∷ []) (decimal_of most (x / 10) ++ (digit (x % 10) ∷ []))

-- a number in decimal: it has no more digits than one more than itself
unfoldable pub decimal : ℕ → List ℕ
decimal x = decimal_of (suc x) x

-- a word: one hex digit an input
abbrev pub hex : Word → List ℕ
hex w = map digit w

-- the words of a line, single spaces between them, and the line feed
abbrev pub line : List (List ℕ) → List ℕ
line [] = text "\n"
line (w ∷ []) = w ++ text "\n"
line (w ∷ v ∷ ws) = w ++ text " " ++ line (v ∷ ws)

-- only the dossier and the unit are read by `run`
abbrev pub letter : File → List ℕ
letter Dossier = text "D"
letter UnitFile = text "U"
letter Sheet = text "S"
letter OutputFile = text "O"
letter Number = text "N"
letter Text = text "T"

-- for 1 to 6 the file's letter and the place
abbrev pub spot : Refusal → List (List ℕ)
spot (Malformed fault f p) = letter f ∷ decimal p ∷ []
spot NoEmptyWord = []
spot (Unreached f q) = []
spot NoSeparator = []
spot (NotSeparated p q) = []
spot (Missing c y s) = []
spot (Repeated r) = []
spot (Foreign r) = []
spot (Absent t) = []
spot OtherInputs = []
spot TooManyStates = []
spot (NoRoom n) = []
spot (NotReduced p q) = []
spot (BadLine n) = []
spot (Contradiction n) = []
spot (Incomplete q i) = []

abbrev pub refusal_line : Refusal → List ℕ
refusal_line r = line (text "REFUSED" ∷ decimal (number_of r) ∷ spot r)

-- the test's place, the step, the test, the golden's output there and the unit's
abbrev pub fails_line : Trial → ℕ → Word → List ℕ
fails_line t i w =
    let g = answer (golden t.dossier) w in
    let u = answer (unit t.unit) w in
    let step = first_difference g u in
    line (text "FAILS" ∷ decimal i ∷ decimal step ∷ hex w ∷ decimal (get_or g step 0) ∷ decimal (get_or u step 0) ∷ [])

abbrev pub verdict_line : Trial → Option (ℕ × Word) → List ℕ
verdict_line t none = line (text "PASSES" ∷ decimal (length t.dossier.tests) ∷ [])
verdict_line t (some (i, w)) = fails_line t i w

unfoldable pub run_line : List ℕ → List ℕ → List ℕ
run_line golden_file unit_file = answered (run golden_file unit_file) (λ t. verdict_line t (failing_of t)) refusal_line
