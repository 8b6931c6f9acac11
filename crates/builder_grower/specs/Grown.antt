-- A trie that the needed words of a dossier are put into (document 01, "Needed words").
use Rattle.std.specs.Prelude.{ℕ, ◌<◌, ◌≡◌, ◌⊎◌, List, [], Option, Some, None}
use Rattle.rules.specs.Words.{Word, Begins}
use Rattle.rules.specs.Files.{DossierData}
use Rattle.rules.specs.Needed.{IsNeeded}
use Rattle.trie.specs.Model.{Trie, size, Proper}
use Rattle.trie.specs.Holds.{Holds}
use Rattle.trie.specs.Words.{Has}

-- it has no other words than the beginnings of needed words
abbrev pub Within : DossierData → Trie → Type 0
Within d t = (v : Word) → Has t v → (v ≡ []) ⊎ ((w : Word) × IsNeeded d w × Begins v w)

-- and it has all of them
pub record Needs (d : DossierData) (t : Trie) : Type 0 where
  pub within : Within d t
  pub whole : (w : Word) → IsNeeded d w → Has t w

-- what growing it answers: how many nodes there are, or that they are more than there is room for
abbrev pub GrownOf : DossierData → List ℕ → List ℕ → List ℕ → Option ℕ → Type 0
GrownOf d label first next (Some count) = (t : Trie) × Holds t label first next × (count ≡ size t) × Needs d t
GrownOf d label first next None = (t : Trie) × Proper t × Within d t × (65536 < size t)
