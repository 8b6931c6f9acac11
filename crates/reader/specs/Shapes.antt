-- What the program answers of a file that was read: its numbers, and for each section the place of the first byte after its
-- count, and how much it holds. The places are computed from the lengths of what was read.
use Rattle.std.specs.Prelude.{ℕ, ◌+◌, length, Result, Ok, Err}
use mathlib.Core.List.{List, flat_map}
use Rattle.rules.specs.declared.File.{File}
use Rattle.rules.specs.declared.Refusal.{Refusal}
use Rattle.rules.specs.declared.Refusal.TheVariants.{Malformed}
use Rattle.rules.specs.Files.{DossierData, UnitData, SheetRecord, entry_bytes, word_bytes}
use Rattle.rules.specs.Operations.{Outcome, fine, refuse}
use Rattle.reader_steps.specs.declared.Stop.{Stop}
use Rattle.reader_steps.specs.Steps.{count_width}
use Rattle.reader.specs.declared.DossierShape.{DossierShape}
use Rattle.reader.specs.declared.UnitShape.{UnitShape}
use Rattle.reader.specs.declared.SheetShape.{SheetShape}

-- the shape of what was read, or the refusal
abbrev pub file_read : {A X : Type 0} → (A → X) → Outcome A → Result X Refusal
file_read shape (fine a) = Ok (shape a)
file_read shape (refuse r) = Err r

-- where the reading stopped, the file is refused
abbrev pub refused_in : {X : Type 0} → File → Result X Stop → Result X Refusal
refused_in f (Ok x) = Ok x
refused_in f (Err e) = Err (Malformed e.fault f e.place)

-- A dossier's table stands after a count, three numbers and its own count.
abbrev pub dossier_table : ℕ
dossier_table = count_width + 3 + count_width

-- each section starts where the one before it ends
unfoldable pub cover_place : DossierData → ℕ
cover_place d = dossier_table + length (flat_map entry_bytes d.table) + count_width

unfoldable pub separating_place : DossierData → ℕ
separating_place d = cover_place d + length (flat_map word_bytes d.cover) + count_width

unfoldable pub tests_place : DossierData → ℕ
tests_place d = separating_place d + length (flat_map word_bytes d.separating) + count_width

abbrev pub dossier_shape : DossierData → DossierShape
dossier_shape d =
    record {
      inputs = d.inputs;
      states = d.states;
      bound_byte = d.bound_byte;
      table = dossier_table;
      cover = cover_place d;
      covers = length d.cover;
      separating = separating_place d;
      separators = length d.separating;
      tests = tests_place d;
      count = length d.tests;
    }

abbrev pub dossier_read : Outcome DossierData → Result DossierShape Refusal
dossier_read = file_read dossier_shape

-- A unit's table stands after a count, two numbers and its own count.
abbrev pub unit_table_place : ℕ
unit_table_place = count_width + 2 + count_width

abbrev pub unit_shape : UnitData → UnitShape
unit_shape u = record { inputs = u.inputs; states = u.states; table = unit_table_place }

abbrev pub unit_read : Outcome UnitData → Result UnitShape Refusal
unit_read = file_read unit_shape

-- A sheet's records stand after their count.
abbrev pub sheet_shape : List SheetRecord → SheetShape
sheet_shape rs = record { records = count_width; count = length rs }

abbrev pub sheet_read : Outcome (List SheetRecord) → Result SheetShape Refusal
sheet_read = file_read sheet_shape
