-- The line of a judged sheet, and what the functions that write it are lent.
use Rattle.std.specs.Prelude.{ℕ, ◌≤◌, ◌<◌, ◌≡◌, List, [], ◌∷◌, true, length, get_or}
use Rattle.std.proofs.Math.Option.{Option, none, some}
use Rattle.rules.specs.Words.{Word, is_in}
use Rattle.rules.specs.Machines.{answer}
use Rattle.rules.specs.Files.{DossierData, SheetRecord, golden}
use Rattle.rules.specs.Operations.{first_difference, recorded_for, Paired, judge, deviating_of, answered, part_of, judged_part}
use Rattle.rules.specs.Line.{text, decimal, line}
use Rattle.theory.specs.Lists.{At}
use Rattle.reader.specs.declared.DossierShape.{DossierShape}
use Rattle.reader.specs.declared.SheetShape.{SheetShape}
use Rattle.reader.specs.Places.{word_at, after_word, after_record, outputs_at}
use Rattle.reader.specs.Standing.{DossierStands}
use Rattle.judge_records.specs.Filed.{words_of}
use Rattle.judge_pairing.specs.Lent.{SheetLent, records_in}
use Rattle.bureau_refusals.specs.Values.{spelled, refused_line}

-- the test's place, the step, the test, the golden's output there and the one that was recorded
abbrev pub deviates_of : ℕ → ℕ → Word → ℕ → ℕ → List ℕ
deviates_of i j w g r = line (text "DEVIATES" ∷ decimal i ∷ decimal j ∷ spelled w ∷ decimal g ∷ decimal r ∷ [])

abbrev pub deviates_line : Paired → ℕ → Word → List ℕ
deviates_line p i w =
    let g = answer (golden p.dossier) w in
    let r = recorded_for p.records w in
    let step = first_difference g r in
    deviates_of i step w (get_or g step 0) (get_or r step 0)

abbrev pub judgement_line : Paired → Option (ℕ × Word) → List ℕ
judgement_line p none = line (text "AGREES" ∷ [])
judgement_line p (some (i, w)) = deviates_line p i w

unfoldable pub judge_line : List ℕ → List ℕ → List ℕ
judge_line dossier_file sheet_file = answered (judge dossier_file sheet_file) (λ p. judgement_line p (deviating_of p)) refused_line

-- the record at p of the sheet in the bytes s is the one that the records rs have for the word w
pub record RecordFor (s : List ℕ) (rs : List SheetRecord) (w : Word) (p : ℕ) : Type 0 where
  pub inside : after_record s p ≤ length s
  pub word : word_at s p ≡ w
  pub recorded : outputs_at s (after_word s p) (get_or s p 0) ≡ recorded_for rs w

-- the record of the test number i of the dossier in the bytes s is not the golden's answer at the step j
pub record DeviatingAt (s : List ℕ) (x : DossierShape) (t : List ℕ) (y : SheetShape) (i j : ℕ) : Type 0 where
  pub dossier : DossierData
  pub test : Word
  pub stands : DossierStands s x dossier
  pub lent : SheetLent t x.inputs y
  pub here : At dossier.tests i test
  pub filed : is_in test (words_of (records_in t y)) ≡ true
  pub step : j < length test
  pub part : part_of s (judged_part s t) ≡ test
  pub says : judge_line s t ≡ deviates_of i j test (get_or (answer (golden dossier) test) j 0) (get_or (recorded_for (records_in t y) test) j 0)
