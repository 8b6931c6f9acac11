-- What the judge's functions answer of the rules' verdict.
use Rattle.std.specs.Prelude.{ℕ, ◌≡◌, List}
use Rattle.std.proofs.Math.Option.{Option, none, some}
use Rattle.rules.specs.Words.{Word}
use Rattle.rules.specs.Machines.{answer}
use Rattle.rules.specs.Files.{DossierData, SheetRecord, golden}
use Rattle.rules.specs.Operations.{fine, read_sheet, check, first_difference, pair, recorded_for, Paired, judge, deviating_of, answered, test_part}
use Rattle.reader.specs.declared.DossierShape.{DossierShape}
use Rattle.reader.specs.declared.SheetShape.{SheetShape}
use Rattle.reader.specs.Shapes.{dossier_shape}
use Rattle.reader.specs.Standing.{DossierStands}
use Rattle.judge.specs.declared.Examined.{Examined}
use Rattle.judge.specs.declared.Examined.TheVariants as examined
use Rattle.judge_records.specs.Filed.{Filed}
use Rattle.judge_pairing.specs.Lent.{SheetLent, tests_in, records_in}

-- an accepted dossier and a well_formed sheet, in their bytes
pub record Handed (s : List ℕ) (x : DossierShape) (t : List ℕ) (y : SheetShape) : Type 0 where
  pub dossier : DossierData
  pub accepted : check s ≡ fine dossier
  pub stands : DossierStands s x dossier
  pub shape : x ≡ dossier_shape dossier
  pub records : List SheetRecord
  pub reads : read_sheet dossier.inputs t ≡ fine records
  pub lent : SheetLent t x.inputs y
  pub are : records_in t y ≡ records

-- such a dossier and the sheet's records, which belong to it and are filed
pub record Matched (s : List ℕ) (x : DossierShape) (t label first next value : List ℕ) : Type 0 where
  pub shape : SheetShape
  pub handed : Handed s x t shape
  pub pairs : pair (tests_in s x) (records_in t shape) ≡ fine tt
  pub filed : Filed t x.inputs (records_in t shape) label first next value

-- the judgement, and where the inputs of the test that deviates stand
abbrev pub examination : Paired → Option (ℕ × Word) → Examined
examination p none = examined.Agrees
examination p (some (i, t)) =
    examined.Deviates i (first_difference (answer (golden p.dossier) t) (recorded_for p.records t)) (test_part p.dossier i t).place (test_part p.dossier i t).size

abbrev pub examined_of : List ℕ → List ℕ → Examined
examined_of dossier_file sheet_file = answered (judge dossier_file sheet_file) (λ p. examination p (deviating_of p)) examined.Refused
