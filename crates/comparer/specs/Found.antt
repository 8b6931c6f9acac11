-- What is answered of a telling word that was found, or of none (document 01, "Compare" and refusal 17).
use Rattle.std.specs.Prelude.{ℕ, ◌≡◌, List}
use Rattle.std.proofs.Math.Option.{Option, none, some}
use Rattle.rules.specs.declared.Compared.{Compared}
use Rattle.rules.specs.declared.Compared.TheVariants.{Refused}
use Rattle.rules.specs.Words.{Word}
use Rattle.rules.specs.Machines.{Machine}
use Rattle.rules.specs.Files.{DossierData, UnitData}
use Rattle.rules.specs.Operations.{Outcome, fine, ◌>>◌, answered, fits_if_any, read_dossier, read_unit, comparison, compared_output}
use Rattle.reader.specs.declared.DossierShape.{DossierShape}
use Rattle.reader.specs.declared.UnitShape.{UnitShape}
use Rattle.reader.specs.Standing.{DossierStands, UnitStands}
use Rattle.theory.specs.Compare.{Equal, FirstTelling}

-- 17, for what was found
abbrev pub room_for : Option Word → List ℕ → Outcome (Option Word)
room_for o out = ◌>>◌ (fits_if_any o out) (fine o)

-- the answer, and the output afterwards, where o was found
abbrev pub Answers : Option Word → List ℕ → Compared → List ℕ → Type 0
Answers o out r left = (r ≡ answered (room_for o out) comparison Refused) × (left ≡ answered (room_for o out) (compared_output out) (λ r. out))

-- o is the first telling word, or there is none
abbrev pub FirstOrNone : ℕ → Machine → Machine → Option Word → Type 0
FirstOrNone k G U none = Equal k G U
FirstOrNone k G U (some w) = FirstTelling k G U w

pub record AnswersFirst (k : ℕ) (G U : Machine) (out : List ℕ) (r : Compared) (left : List ℕ) : Type 0 where
  pub found : Option Word
  pub first : FirstOrNone k G U found
  pub answers : Answers found out r left

-- a dossier and a unit that read well, where they stand
pub record Stand (dossier unit : List ℕ) (x : DossierShape) (y : UnitShape) : Type 0 where
  pub held : DossierData
  pub reads : read_dossier dossier ≡ fine held
  pub stands : DossierStands dossier x held
  pub uheld : UnitData
  pub ureads : read_unit unit ≡ fine uheld
  pub ustands : UnitStands unit y uheld
