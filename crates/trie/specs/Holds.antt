-- What the three arrays hold of a trie.
use Rattle.std.specs.Prelude.{ℕ, ◌≤◌, ◌<◌, ◌≡◌, List, length, get_or, Option, Some, None}
use Rattle.trie.specs.Model.{Trie, Proper, size, child_in, first_of, next_of, label_of, step_trie, step_node, add_word, end_of}

pub record Holds (t : Trie) (label first next : List ℕ) : Type 0 where
  pub proper : Proper t
  pub room : size t ≤ length label
  pub firsts_long : length first ≡ length label
  pub nexts_long : length next ≡ length label
  pub small : length label ≤ 65536
  pub labels : (i : ℕ) → i < size t → get_or label i 0 ≡ label_of t i
  pub firsts : (i : ℕ) → i < size t → get_or first i 0 ≡ first_of t i
  pub nexts : (i : ℕ) → i < size t → get_or next i 0 ≡ next_of t i

-- some trie that the arrays hold has the node p
pub record Node (label first next : List ℕ) (p : ℕ) : Type 0 where
  pub trie : Trie
  pub holds : Holds trie label first next
  pub below : p < size trie

-- the arrays hold some trie of that many nodes
pub record Counted (label first next : List ℕ) (count : ℕ) : Type 0 where
  pub trie : Trie
  pub holds : Holds trie label first next
  pub counted : count ≡ size trie

-- the node under p with the label a, as it is looked up: no child is the root, whose number stands for none
abbrev pub ChildOf : Trie → ℕ → ℕ → Option ℕ → Type 0
ChildOf t p a (Some j) = (j ≡ child_in t p a) × (0 < j)
ChildOf t p a None = child_in t p a ≡ 0

-- what a step answers at a node p and a label a of t: the node and the count, the arrays as they are then holding t with that node;
-- or there is no room for it
abbrev pub StepOf : Trie → ℕ → ℕ → List ℕ → List ℕ → List ℕ → Option (ℕ × ℕ) → Type 0
StepOf t p a label first next (Some (node, count)) =
    (node ≡ step_node t p a) × (count ≡ size (step_trie t p a)) × Holds (step_trie t p a) label first next
StepOf t p a label first next None = length label < size (step_trie t p a)

-- what putting a word in from a node answers: the node of its end and the count, the arrays as they are then holding t with the word;
-- or there is no room for it
abbrev pub InsertOf : Trie → ℕ → List ℕ → List ℕ → List ℕ → List ℕ → Option (ℕ × ℕ) → Type 0
InsertOf t p w label first next (Some (node, count)) =
    (node ≡ end_of t p w) × (count ≡ size (add_word t p w)) × Holds (add_word t p w) label first next
InsertOf t p w label first next None = length label < size (add_word t p w)
