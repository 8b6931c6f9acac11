-- A loop over the c words from a place on, where i of them are passed and the next stands at p.
use Prim.Native.Nat.{ℕ, ◌+◌, ◌-◌, ◌≤◌, ◌<◌}
use native.Mathlib.Omega.{arith}
use native.Mathlib.Nat.{sub-zero}
use mathlib.Core.Path.{◌≡◌}
use mathlib.Core.List.{List, [], ◌∷◌}
use Rattle.reader.specs.Places.{word_at, after_word, words_at, WordAt, WordsAt}
use Rattle.reader.specs.Turns.{word_turn, words_end}

pub record Turn (s : List ℕ) (p k c i : ℕ) : Type 0 where
  pub here : WordAt s p k
  pub rest : WordsAt s (after_word s p) k (c - (i + 1))
  pub words : words_at s p (c - i) ≡ word_at s p ∷ words_at s (after_word s p) (c - (i + 1))

pub turn : (s : List ℕ) (p k c i : ℕ) → i < c → WordsAt s p k (c - i) → Turn s p k c i
turn s p k c i less stand =
    let fewer : c - (i + 1) ≡ c - i - 1 = omega arith in
    let t = word_turn s p k (c - i) (omega arith) stand in
    record { here = t.here; rest = rw fewer t.rest; words = rw fewer t.words }

-- none is passed, and all are
pub turns_start : (s : List ℕ) (p k c : ℕ) → WordsAt s p k c → WordsAt s p k (c - 0)
turns_start s p k c stand = rw (sub-zero c) stand

pub turns_end : (s : List ℕ) (p c i : ℕ) → c ≤ i → words_at s p (c - i) ≡ []
turns_end s p c i done = words_end s p (c - i) (omega arith)
