-- The maximal words of a trie, in the order of their inputs.
use Rattle.std.specs.Prelude.{ℕ, zero, suc, ◌+◌, ◌≤◌, ◌<◌, ◌≡◌, refl, cond, eqb, length, take, drop, Option, Some, None}
use Rattle.std.proofs.Common.{sym, ◌∙◌, take-append-drop}
use mathlib.Core.List.{List, [], ◌∷◌, ◌++◌, append_assoc, append-nil, flat_map}
use Rattle.rules.specs.Words.{Word}
use Rattle.rules.specs.Files.{word_bytes}
use Rattle.trie.specs.Model.{Trie, size, first_of, child_in, word_of}
use Rattle.trie.specs.Holds.{Holds}

-- g a, g (a + 1), .. : n of them, joined
unfoldable pub gather : (ℕ → List Word) → ℕ → ℕ → List Word
gather g a zero = []
gather g a (suc n) = g a ++ gather g (suc a) n

-- the words below the node i whose inputs are below k and below which there is none: u stands for the word of i, and d bounds how deep they go
unfoldable pub leaves : Trie → ℕ → ℕ → ℕ → List ℕ → List Word
leaves t k zero i u = []
leaves t k (suc d) i u =
    cond (eqb (first_of t i) 0) (u ∷ [])
    (gather (λ a. cond (eqb (child_in t i a) 0) [] (leaves t k d (child_in t i a) (u ++ (a ∷ [])))) 0 k)

-- the maximal words
abbrev pub maximal : Trie → ℕ → List Word
maximal t k = leaves t k (size t) 0 []

-- words one behind the other, each behind its length byte
abbrev pub bytes_of : List Word → List ℕ
bytes_of ws = flat_map word_bytes ws

-- what writing the bytes at a place answers: the place behind them, and the bytes before and behind stay; or no room for them
abbrev pub WroteOf : List ℕ → List ℕ → ℕ → List ℕ → Option ℕ → Type 0
WroteOf bytes out at out' (Some p) = (p ≡ at + length bytes) × (p ≤ length out') × (take p out' ≡ take at out ++ bytes) × (drop p out' ≡ drop p out)
WroteOf bytes out at out' None = length out < at + length bytes

-- what measuring words answers, where `words` before them end at a place: how many there are then and where they end, if no
-- farther than the room
abbrev pub MeasureOf : List Word → ℕ → ℕ → ℕ → Option (ℕ × ℕ) → Type 0
MeasureOf ws words at room (Some (n, p)) = (n ≡ words + length ws) × (p ≡ at + length (bytes_of ws)) × (p ≤ room) × (n ≤ p)
MeasureOf ws words at room None = room < at + length (bytes_of ws)

-- the arrays hold a trie that has the node, whose word is `depth` long, and no word is longer than the path
pub record Visiting (label first next : List ℕ) (node depth room : ℕ) : Type 0 where
  pub trie : Trie
  pub holds : Holds trie label first next
  pub below : node < size trie
  pub level : length (word_of trie node) ≡ depth
  pub deep : (i : ℕ) → i < size trie → length (word_of trie i) ≤ room

-- the arrays hold a trie none of whose words is longer than the room
pub record Deep (label first next : List ℕ) (room : ℕ) : Type 0 where
  pub trie : Trie
  pub holds : Holds trie label first next
  pub deep : (i : ℕ) → i < size trie → length (word_of trie i) ≤ room

pub bytes_append : (xs ys : List Word) → bytes_of (xs ++ ys) ≡ bytes_of xs ++ bytes_of ys
unfolding flat_map word_bytes
bytes_append [] ys = refl
bytes_append (x ∷ xs) ys = rw (bytes_append xs ys, append_assoc)

pub bytes_one : (w : Word) → bytes_of (w ∷ []) ≡ length w ∷ w
unfolding flat_map word_bytes
bytes_one w = append-nil (length w ∷ w)

pub bytes_none : bytes_of [] ≡ []
unfolding flat_map word_bytes
bytes_none = refl

-- an output after words were written
pub wrote_whole : (bytes out : List ℕ) (at : ℕ) (out' : List ℕ) (p : ℕ) → WroteOf bytes out at out' (Some p) → out' ≡ take at out ++ (bytes ++ drop p out)
wrote_whole bytes out at out' p wrote =
    sym (take-append-drop p out') ∙ rw (wrote.2, wrote.3) (append_assoc (take at out) bytes (drop p out))
