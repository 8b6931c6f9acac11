-- A trie over words: nodes are numbers, node 0 is the root, and each further node was made under an earlier one with a label.
use Rattle.std.specs.Prelude.{ℕ, suc, ◌<◌, ◌≡◌, List, [], ◌∷◌, ◌++◌, cond, eqb, Option, Some, None}
use Rattle.rules.specs.Words.{Word}

-- `grow t p a` is t with one node more, whose number is t's size, under the node p and with the label a
pub data Trie : Type 0 where
  root : Trie
  grow : Trie → ℕ → ℕ → Trie

unfoldable pub size : Trie → ℕ
size root = 1
size (grow t p a) = suc (size t)

-- the node under p with the label a, or 0
unfoldable pub child_in : Trie → ℕ → ℕ → ℕ
child_in root p a = 0
child_in (grow t q b) p a = cond (eqb q p) (cond (eqb b a) (size t) (child_in t p a)) (child_in t p a)

-- the last node under p, or 0
unfoldable pub first_of : Trie → ℕ → ℕ
first_of root p = 0
first_of (grow t q b) p = cond (eqb q p) (size t) (first_of t p)

-- the last node before i under the same node as i, or 0
unfoldable pub next_of : Trie → ℕ → ℕ
next_of root i = 0
next_of (grow t q b) i = cond (eqb i (size t)) (first_of t q) (next_of t i)

unfoldable pub label_of : Trie → ℕ → ℕ
label_of root i = 0
label_of (grow t q b) i = cond (eqb i (size t)) b (label_of t i)

-- the word of a node: that of the node that it is under, and its label
unfoldable pub word_of : Trie → ℕ → List ℕ
word_of root i = []
word_of (grow t q b) i = cond (eqb i (size t)) (word_of t q ++ (b ∷ [])) (word_of t i)

-- from the node i along the word, or none where the walk leaves the trie
unfoldable pub walk_from : Trie → ℕ → List ℕ → Option ℕ
walk_from t i [] = Some i
walk_from t i (a ∷ w) = cond (eqb (child_in t i a) 0) None (walk_from t (child_in t i a) w)

-- t with a node under i with the label a, new if there was none, and that node
unfoldable pub step_trie : Trie → ℕ → ℕ → Trie
step_trie t i a = cond (eqb (child_in t i a) 0) (grow t i a) t

unfoldable pub step_node : Trie → ℕ → ℕ → ℕ
step_node t i a = cond (eqb (child_in t i a) 0) (size t) (child_in t i a)

-- t with the word put in from the node i, and the node of its end
unfoldable pub add_word : Trie → ℕ → List ℕ → Trie
add_word t i [] = t
add_word t i (a ∷ w) = add_word (step_trie t i a) (step_node t i a) w

unfoldable pub end_of : Trie → ℕ → List ℕ → ℕ
end_of t i [] = i
end_of t i (a ∷ w) = end_of (step_trie t i a) (step_node t i a) w

-- the trie of the words, put in one after the other
unfoldable pub add_all : Trie → List Word → Trie
add_all t [] = t
add_all t (w ∷ ws) = add_all (add_word t 0 w) ws

abbrev pub holding : List Word → Trie
holding ws = add_all root ws

-- every node is under an earlier one, and no two have the same place and label
pub data Proper : Trie → Type 0 where
  proper_root : Proper root
  proper_grow : {t : Trie} {p a : ℕ} → Proper t → p < size t → child_in t p a ≡ 0 → Proper (grow t p a)
