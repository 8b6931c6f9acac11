-- What the operations that begin with all of check are lent (document 01, "Run" and "Judge").
use Rattle.std.specs.Prelude.{ℕ, ◌≡◌, List}
use Rattle.rules.specs.Files.{DossierData}
use Rattle.rules.specs.Operations.{fine, check}
use Rattle.reader.specs.declared.DossierShape.{DossierShape}
use Rattle.reader.specs.Standing.{DossierStands}

-- an accepted dossier in the bytes s, at the places of the shape x
pub record AcceptedAt (s : List ℕ) (x : DossierShape) : Type 0 where
  pub held : DossierData
  pub checks : check s ≡ fine held
  pub stands : DossierStands s x held
