-- What the builder's functions are lent.
use Rattle.std.specs.Prelude.{ℕ, ◌+◌, ◌≤◌, ◌≡◌, List, [], length, take}
use Rattle.rules.specs.Sizes.{most_dossier_bytes}
use Rattle.rules.specs.Files.{DossierData, front_bytes, dossier_bytes}
use Rattle.rules.specs.Needed.{built_tests}
use Rattle.rules.specs.Operations.{Outcome, fine, refuse, read_dossier}
use Rattle.theory.specs.Sound.{Sound}
use Rattle.theory.specs.Build.{built_dossier}
use Rattle.reader.specs.declared.DossierShape.{DossierShape}
use Rattle.soundness.specs.Lent.{Lent}
use Rattle.trie.specs.Model.{Trie}
use Rattle.trie.specs.Holds.{Holds}
use Rattle.builder_grower.specs.Grown.{Needs}

-- the bytes of the dossier that build writes for the dossier of the bytes s
abbrev pub built_of : Outcome DossierData → List ℕ
built_of (fine d) = dossier_bytes (built_dossier d)
built_of (refuse r) = []

abbrev pub built_bytes : List ℕ → List ℕ
built_bytes s = built_of (read_dossier s)

-- a dossier that none of 1 to 10 refuses; what stands before its tests is what the rules would write there
pub record Buildable (s : List ℕ) (x : DossierShape) : Type 0 where
  pub lent : Lent s x
  pub is_sound : Sound lent.held
  pub place : x.tests ≡ length (front_bytes lent.held) + 2
  pub front : take (length (front_bytes lent.held)) s ≡ front_bytes lent.held

-- and a trie of its needed words
pub record Planted (s : List ℕ) (x : DossierShape) (label first next : List ℕ) : Type 0 where
  pub dossier : Buildable s x
  pub trie : Trie
  pub holds : Holds trie label first next
  pub needs : Needs dossier.lent.held trie

-- whose maximal words were counted, and found to fit
pub record Fitting (s : List ℕ) (x : DossierShape) (label first next : List ℕ) (words room : ℕ) : Type 0 where
  pub planted : Planted s x label first next
  pub counted : words ≡ length (built_tests planted.dossier.lent.held)
  pub small : length (built_bytes s) ≤ most_dossier_bytes
  pub fits : length (built_bytes s) ≤ room
