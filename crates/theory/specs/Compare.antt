-- Document 01, "Compare": what EQUAL and DIFFERS say, and when each answer of compare is given. That they are given so is proved in
-- proofs/Compare.antt.
use Rattle.std.specs.Prelude.{ℕ, ◌≤◌, ◌<◌, ◌≡◌, ◌≢◌, List, length}
use Rattle.std.proofs.Math.Option.{Option, none, some}
use Rattle.rules.specs.declared.Refusal.{Refusal}
use Rattle.rules.specs.declared.Refusal.TheVariants.{OtherInputs, NoRoom}
use Rattle.rules.specs.declared.Compared.{Compared}
use Rattle.rules.specs.declared.Compared.TheVariants.{Equal as Alike, Differs, Refused}
use Rattle.rules.specs.Words.{Word, Valid}
use Rattle.rules.specs.Machines.{Machine, answer}
use Rattle.rules.specs.Files.{DossierData, UnitData, golden, unit}
use Rattle.rules.specs.Operations.{fine, refuse, read_dossier, read_unit}
use Rattle.theory.specs.Orders.{ByLength}

-- two machines answer every word over k inputs alike
abbrev pub Equal : ℕ → Machine → Machine → Type 0
Equal k G U = (w : Word) → Valid k w → answer G w ≡ answer U w

-- w tells them apart, and no word that is shorter, or as long and earlier by inputs, does
pub record FirstTelling (k : ℕ) (G U : Machine) (w : Word) : Type 0 where
  pub valid : Valid k w
  pub tells : answer G w ≢ answer U w
  pub earlier : (v : Word) → Valid k v → ByLength v w → answer G v ≡ answer U v

-- what compare compares: a dossier and a unit that read well and have the same inputs
pub record Compares (dossier_file unit_file : List ℕ) (d : DossierData) (u : UnitData) : Type 0 where
  pub reads : read_dossier dossier_file ≡ fine d
  pub unit_reads : read_unit unit_file ≡ fine u
  pub same_inputs : d.inputs ≡ u.inputs

-- the first telling word of a dossier's golden and a unit
abbrev pub TellingOf : DossierData → UnitData → Word → Type 0
TellingOf d u w = FirstTelling d.inputs (golden d) (unit u) w

-- compare's order: the dossier's 1 to 6, the unit's 1 to 6, 15, 17
pub data CompareRefuses (dossier_file unit_file out : List ℕ) (r : Refusal) : Type 0 where
  malformed : read_dossier dossier_file ≡ refuse r → CompareRefuses dossier_file unit_file out r
  malformed_unit : (d : DossierData) → read_dossier dossier_file ≡ fine d → read_unit unit_file ≡ refuse r → CompareRefuses dossier_file unit_file out r
  fifteen : (d : DossierData) (u : UnitData) → read_dossier dossier_file ≡ fine d → read_unit unit_file ≡ fine u → d.inputs ≢ u.inputs → r ≡ OtherInputs
      → CompareRefuses dossier_file unit_file out r
  seventeen : (d : DossierData) (u : UnitData) → Compares dossier_file unit_file d u → (w : Word) → TellingOf d u w → length out < length w → r ≡ NoRoom (length w)
      → CompareRefuses dossier_file unit_file out r

-- what is found, where nothing refuses it: nothing to write, or a word that fits
abbrev pub Finds : List ℕ → DossierData → UnitData → Option Word → Type 0
Finds out d u none = Equal d.inputs (golden d) (unit u)
Finds out d u (some w) = TellingOf d u w × (length w ≤ length out)

-- what compare finds, with the files that it compared
abbrev pub CompareFinds : List ℕ → List ℕ → List ℕ → Option Word → Type 0
CompareFinds dossier_file unit_file out o = (d : DossierData) × (u : UnitData) × Compares dossier_file unit_file d u × Finds out d u o

-- when each answer of compare is given
abbrev pub CompareGives : List ℕ → List ℕ → List ℕ → Compared → Type 0
CompareGives dossier_file unit_file out Alike = (d : DossierData) × (u : UnitData) × Compares dossier_file unit_file d u × Equal d.inputs (golden d) (unit u)
CompareGives dossier_file unit_file out (Differs n) =
    (d : DossierData) × (u : UnitData) × (w : Word) × Compares dossier_file unit_file d u × TellingOf d u w × (length w ≤ length out) × (n ≡ length w)
CompareGives dossier_file unit_file out (Refused r) = CompareRefuses dossier_file unit_file out r
