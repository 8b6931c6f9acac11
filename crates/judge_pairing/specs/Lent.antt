-- What pairing is lent: the tests of a dossier and the records of a sheet, where they stand.
use Rattle.std.specs.Prelude.{ℕ, ◌≤◌, ◌<◌, List, length}
use Rattle.rules.specs.Sizes.{most_sheet_bytes}
use Rattle.rules.specs.Words.{Word}
use Rattle.rules.specs.Files.{SheetRecord}
use Rattle.reader.specs.declared.DossierShape.{DossierShape}
use Rattle.reader.specs.declared.SheetShape.{SheetShape}
use Rattle.reader.specs.Places.{words_at, records_at, RecordsAt}

abbrev pub tests_in : List ℕ → DossierShape → List Word
tests_in s x = words_at s x.tests x.count

abbrev pub records_in : List ℕ → SheetShape → List SheetRecord
records_in s y = records_at s y.records y.count

-- The records of a sheet over k inputs. None stands at the place 0, which can so say that there is none.
pub record SheetLent (s : List ℕ) (k : ℕ) (y : SheetShape) : Type 0 where
  pub size : length s ≤ most_sheet_bytes
  pub start : 1 < y.records
  pub records : RecordsAt s y.records k y.count
