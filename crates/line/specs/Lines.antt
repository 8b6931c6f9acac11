-- Document 01, "Worked pieces": the line that the program `run` prints, and what the functions that write it are lent.
use Rattle.std.specs.Prelude.{ℕ, ◌≤◌, ◌<◌, ◌≡◌, List, [], ◌∷◌, length, get_or, take, drop, replicate}
use Rattle.rules.specs.Words.{Word}
use Rattle.rules.specs.Machines.{answer}
use Rattle.rules.specs.Files.{DossierData, UnitData, golden, unit}
use Rattle.rules.specs.Operations.{fine, read_unit}
use Rattle.rules.specs.Line.{text, decimal, hex, line, run_line}
use Rattle.theory.specs.Lists.{At}
use Rattle.reader.specs.declared.DossierShape.{DossierShape}
use Rattle.reader.specs.declared.UnitShape.{UnitShape}
use Rattle.reader.specs.Standing.{DossierStands, UnitStands}
use Rattle.line.specs.declared.Line.{Line}

-- room for every line: a text, four numbers of at most 20 digits and a word of at most 255 inputs, with spaces and the
-- line feed
abbrev pub line_room : ℕ
line_room = 346

abbrev pub passes_line : ℕ → List ℕ
passes_line count = line (text "PASSES" ∷ decimal count ∷ [])

-- the test's place, the step, the test, the golden's output there and the unit's
abbrev pub fails_of : ℕ → ℕ → Word → ℕ → ℕ → List ℕ
fails_of i j w g u = line (text "FAILS" ∷ decimal i ∷ decimal j ∷ hex w ∷ decimal g ∷ decimal u ∷ [])

-- the unit in the bytes t, at the places of the shape y
pub record UnitAt (t : List ℕ) (y : UnitShape) : Type 0 where
  pub held : UnitData
  pub reads : read_unit t ≡ fine held
  pub stands : UnitStands t y held

-- the test number i of the dossier in the bytes s fails the unit in the bytes t at the step j
pub record FailingAt (s : List ℕ) (x : DossierShape) (t : List ℕ) (y : UnitShape) (i j : ℕ) : Type 0 where
  pub dossier : DossierData
  pub tried : UnitData
  pub test : Word
  pub stands : DossierStands s x dossier
  pub unit_stands : UnitStands t y tried
  pub same_inputs : x.inputs ≡ y.inputs
  pub here : At dossier.tests i test
  pub step : j < length test
  pub says : run_line s t ≡ fails_of i j test (get_or (answer (golden dossier) test) j 0) (get_or (answer (unit tried) test) j 0)

-- What a line says: the text at the front of its bytes, and behind it nothing but zeros.
pub record Says (said : List ℕ) (r : Line) : Type 0 where
  pub printed : take r.length r.bytes ≡ said
  pub within : r.length ≤ line_room
  pub size : length r.bytes ≡ line_room
  pub behind : drop r.length r.bytes ≡ drop r.length (replicate line_room 0)

-- what `run_line` gives
abbrev pub RunLinePromise : List ℕ → List ℕ → Line → Type 0
RunLinePromise golden_file unit_file r = Says (run_line golden_file unit_file) r
