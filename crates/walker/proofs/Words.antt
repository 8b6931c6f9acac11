-- Laws of words that stand in bytes.
use Prim.Native.Nat.{ℕ, ◌+◌, ◌≤◌, ◌<◌}
use mathlib.Core.Path.{◌≡◌}
use mathlib.Core.List.{List, [], ◌∷◌}
use native.Mathlib.Numerals.{add-one}
use native.Mathlib.Omega.{arith}
use lib.ListN.{length, get_or, drop, length-take, length-drop, drop_of_length-le}
use lib.Seq.{drop-cons, get_or-take, get_or-drop}
use Rattle.rules.specs.Words.{Word}
use Rattle.reader.specs.Places.{word_at, WordAt}
use Rattle.walker.specs.Walks.{Whole}

-- a word has as many inputs as its length byte says
pub word-length : (s : List ℕ) (p : ℕ) → Whole s p → length (word_at s p) ≡ get_or s p 0
unfolding word_at
word-length s p whole = simp (length-take, length-drop) (omega arith)

-- and they stand behind it
pub word_input : (s : List ℕ) (p : ℕ) → Whole s p → (j : ℕ) → j < length (word_at s p) → get_or (word_at s p) j 0 ≡ get_or s (p + 1 + j) 0
unfolding word_at
word_input s p whole j less =
    let h : j < get_or s p 0 = rw (word-length s p whole) at less in
    rw (get_or-take (get_or s p 0) (drop (p + 1) s) j 0 h, get_or-drop)

pub input_below : (s : List ℕ) (p k : ℕ) → WordAt s p k → (j r : ℕ) → j < length (word_at s p) → r ≡ get_or (word_at s p) j 0 → r < k
input_below s p k at j r less e =
    let h : j < get_or s p 0 = rw (word-length s p at.inside) at less in
    rw (e, word_input s p at.inside j less) (at.below j h)

-- what is left of a word after j inputs
pub rest_more : (w : Word) (j : ℕ) → j < length w → drop j w ≡ get_or w j 0 ∷ drop (j + 1) w
rest_more w j less = rw (drop-cons w j 0 less, add-one j)

pub rest_none : (w : Word) (j : ℕ) → length w ≤ j → drop j w ≡ []
rest_none w j le = drop_of_length-le w le
