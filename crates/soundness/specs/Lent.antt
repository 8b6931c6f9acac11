-- What the checker's functions are lent, the bytes of a dossier that reads well and its shape; and what they answer of the rules' outcomes.
use Rattle.std.specs.Prelude.{ℕ, ◌≡◌, List, Result}
use Rattle.rules.specs.declared.Refusal.{Refusal}
use Rattle.rules.specs.Files.{DossierData}
use Rattle.rules.specs.Operations.{Outcome, fine, ◌>>=◌, ◌>>◌, read_dossier, sound}
use Rattle.reader.specs.declared.DossierShape.{DossierShape}
use Rattle.reader.specs.Shapes.{file_read}
use Rattle.reader.specs.Standing.{DossierStands}

pub record Lent (s : List ℕ) (x : DossierShape) : Type 0 where
  pub held : DossierData
  pub reads : read_dossier s ≡ fine held
  pub stands : DossierStands s x held

-- 7 to 10 of the dossier that bytes hold
abbrev pub sound_of : List ℕ → Outcome (Unit {0})
sound_of s = ◌>>=◌ (read_dossier s) sound

-- the dossier that bytes hold, if none of 1 to 10 refuses it
abbrev pub sound_dossier : List ℕ → Outcome DossierData
sound_dossier s = ◌>>=◌ (read_dossier s) (λ d. ◌>>◌ (sound d) (fine d))

-- nothing to refuse, or the first refusal
abbrev pub finding_of : Outcome (Unit {0}) → Result (Unit {0}) Refusal
finding_of = file_read (λ x. x)
