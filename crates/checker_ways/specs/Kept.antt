-- Where the ways of the search for a missing word lead in the trie of the tests, and which nodes are kept on the way (document 01,
-- refusal 11).
use Rattle.std.specs.Prelude.{ℕ, ◌+◌, ◌≤◌, ◌<◌, ◌≡◌, List, [], true, length, get_or, Some, None}
use Rattle.rules.specs.Words.{Word, is_in, shortlex}
use Rattle.trie.specs.Model.{Trie, size, word_of, walk_from}
use Rattle.trie.specs.Holds.{Holds}
use Rattle.trie.specs.Values.{marks_of, Noted}
use Rattle.checker_ways.specs.declared.Way.{Way}
use Rattle.checker_ways.specs.declared.Way.TheVariants.{Off, Known, To}

-- what a walk from the root along the word w says: it leaves the trie, or reaches a marked node, or another one
abbrev pub WayOf : Trie → List ℕ → Word → Way → Type 0
WayOf t marks w Off = walk_from t 0 w ≡ None
WayOf t marks w Known = (ws : List Word) → Noted t (marks_of ws) marks → is_in w ws ≡ true
WayOf t marks w (To node) = (node < size t) × (word_of t node ≡ w)

-- Of the words that are numbered, those below y lead from a node to the nodes that are kept. Not all have a place there.
abbrev pub KeptAt : Trie → ℕ → List Word → List ℕ → ℕ → Type 0
KeptAt t from ws nodes y = (z : ℕ) → z < y → z < length nodes → walk_from t from (get_or ws z []) ≡ Some (get_or nodes z 0)

-- the next one too, where its walk does not leave the trie
pub record KeptNext (t : Trie) (from : ℕ) (ws : List Word) (nodes : List ℕ) (y : ℕ) (r : Way) : Type 0 where
  pub kept : (r ≡ Off → ⊥) → KeptAt t from ws nodes (y + 1)

-- what a walk along the middle number y is lent: a place for each middle that others grow from
pub record Keeping (label first next nodes : List ℕ) (inputs from y : ℕ) : Type 0 where
  pub trie : Trie
  pub holds : Holds trie label first next
  pub below : from < size trie
  pub longest : ℕ
  pub short : longest ≤ 5
  pub few : inputs ≤ 16
  pub places : length nodes ≡ 69905
  pub less : y < length (shortlex inputs longest)
  pub kept : KeptAt trie from (shortlex inputs longest) nodes y
