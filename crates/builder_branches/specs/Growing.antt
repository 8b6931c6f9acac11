-- How a trie grows by words, and the marks that say what was put behind the word of a node.
use Rattle.std.specs.Prelude.{ℕ, ◌≤◌, ◌<◌, ◌≡◌, ◌⊎◌, List, ◌++◌, length, get_or, Option, Some, None}
use Rattle.rules.specs.Lists.{◌∈◌}
use Rattle.rules.specs.Words.{Word, Valid, Begins}
use Rattle.reader.specs.Places.{word_at}
use Rattle.walker.specs.Walks.{Whole}
use Rattle.trie.specs.Model.{Trie, size, word_of, Proper}
use Rattle.trie.specs.Holds.{Holds}
use Rattle.trie.specs.Words.{Has}

-- a word that stands at one of the first n places
pub record Separator (s places : List ℕ) (n : ℕ) (w : Word) : Type 0 where
  pub number : ℕ
  pub below : number < n
  pub stands : word_at s (get_or places number 0) ≡ w

-- at each of them a word stands, and there is one
pub record Separators (s places : List ℕ) (n : ℕ) : Type 0 where
  pub one : 0 < n
  pub listed : n ≤ length places
  pub whole : (j : ℕ) → j < n → Whole s (get_or places j 0)

-- the first n places are those of the words ws
pub record Listed (s places : List ℕ) (n : ℕ) (ws : List Word) : Type 0 where
  pub long : n ≤ length places
  pub whole : (j : ℕ) → j < n → Whole s (get_or places j 0)
  pub inside : (w : Word) → Separator s places n w → w ∈ ws
  pub every : (w : Word) → w ∈ ws → Separator s places n w

-- the word u, then a middle of at most `most` inputs below k, then a word of W
pub record Behind (k most : ℕ) (W : Word → Type 0) (u w : Word) : Type 0 where
  pub middle : Word
  pub back : Word
  pub inputs : Valid k middle
  pub short : length middle ≤ most
  pub separating : W back
  pub joined : w ≡ u ++ middle ++ back

-- t' is t with more nodes, whose words are beginnings of words of S
pub record Grows (S : Word → Type 0) (t t' : Trie) : Type 0 where
  pub proper : Proper t'
  pub more : size t ≤ size t'
  pub kept : (i : ℕ) → i < size t → word_of t' i ≡ word_of t i
  pub added : (v : Word) → Has t' v → Has t v ⊎ ((w : Word) × S w × Begins v w)

-- the mark of a node passes the length of the middles that stand behind its word, each with every word of W behind it
pub record Done (k : ℕ) (W : Word → Type 0) (t : Trie) (done : List ℕ) : Type 0 where
  pub there : (i : ℕ) → i < size t → (y v : Word) → Valid k y → length y < get_or done i 0 → W v → Has t (word_of t i ++ y ++ v)
  pub blank : (i : ℕ) → size t ≤ i → get_or done i 0 ≡ 0

-- the arrays hold some trie of that many nodes, and its marks
pub record Ready (k : ℕ) (W : Word → Type 0) (label first next done : List ℕ) (count : ℕ) : Type 0 where
  pub trie : Trie
  pub holds : Holds trie label first next
  pub counted : count ≡ size trie
  pub marked : Done k W trie done

-- the arrays hold t with all words of S put in, and its marks
pub record Grew (k : ℕ) (W S : Word → Type 0) (t : Trie) (label first next done : List ℕ) (count : ℕ) : Type 0 where
  pub trie : Trie
  pub holds : Holds trie label first next
  pub counted : count ≡ size trie
  pub marked : Done k W trie done
  pub grown : Grows S t trie
  pub whole : (w : Word) → S w → Has trie w

-- what putting the words of S into t answers: the arrays are as said, or there is no room for all of them
abbrev pub GrewOf : ℕ → (Word → Type 0) → (Word → Type 0) → Trie → List ℕ → List ℕ → List ℕ → List ℕ → Option ℕ → Type 0
GrewOf k W S t label first next done (Some count) = Grew k W S t label first next done count
GrewOf k W S t label first next done None = (t' : Trie) × Grows S t t' × (length label < size t')

-- the same of all that is needed behind the word u, where the separating words stand at the first n places
abbrev pub BranchOf : List ℕ → List ℕ → ℕ → ℕ → ℕ → Word → Trie → List ℕ → List ℕ → List ℕ → List ℕ → Option ℕ → Type 0
BranchOf s places n k most u t label first next done r =
    GrewOf k (Separator s places n) (Behind k most (Separator s places n) u) t label first next done r
