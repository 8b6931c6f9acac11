-- Laws of the searches over a section of words.
use Prim.Native.Nat.{ℕ, ◌+◌, ◌-◌, ◌≤◌, ◌<◌}
use native.Mathlib.Omega.{arith}
use mathlib.Core.Path.{◌≡◌, refl}
use mathlib.Core.List.Memᴰ
use mathlib.Core.List.{List, [], ◌∷◌}
use mathlib.Core.Bool.{Bool, true}
use lib.ListN.{length}
use Rattle.rules.specs.Lists.{◌∈◌, all}
use Rattle.rules.specs.Words.{Word, is_in}
use Rattle.reader.specs.Places.{word_at, after_word, words_at, WordsAt}
use Rattle.walker.proofs.Turns.{turn, turns_end}

empty_here : (w : Word) (ws : List Word) → length w ≡ 0 → is_in [] (w ∷ ws) ≡ true
empty_here [] ws e = refl
empty_here (a ∷ w) ws e = absurd (omega arith)

empty_later : (w : Word) (ws : List Word) → (length w ≡ 0 → ⊥) → is_in [] (w ∷ ws) ≡ is_in [] ws
empty_later [] ws ne = absurd (ne refl)
empty_later (a ∷ w) ws ne = refl

module _ (s : List ℕ) (p k c i : ℕ) (less : i < c) (stand : WordsAt s p k (c - i)) where
  -- it is the empty word
  pub empty_found : length (word_at s p) ≡ 0 → is_in [] (words_at s p (c - i)) ≡ true
  empty_found none = rw (turn s p k c i less stand).words (empty_here (word_at s p) (words_at s (after_word s p) (c - (i + 1))) none)

  -- it is not, so the empty word is among the others or nowhere
  pub empty_next : (length (word_at s p) ≡ 0 → ⊥) → is_in [] (words_at s p (c - i)) ≡ is_in [] (words_at s (after_word s p) (c - (i + 1)))
  empty_next other = rw (turn s p k c i less stand).words (empty_later (word_at s p) (words_at s (after_word s p) (c - (i + 1))) other)

  -- what holds of all words holds of the one at p, and of the others
  pub word_member : (P : Word → Type 0) → ((v : Word) → v ∈ words_at s p (c - i) → P v) → P (word_at s p)
  word_member P h = h (word_at s p) (rw (turn s p k c i less stand).words (Memᴰ.head refl))

  pub rest_members : (P : Word → Type 0) → ((v : Word) → v ∈ words_at s p (c - i) → P v) → (v : Word) → v ∈ words_at s (after_word s p) (c - (i + 1)) → P v
  rest_members P h v m = h v (rw (turn s p k c i less stand).words (Memᴰ.tail m))

  -- where the word at p passes, all do exactly where the others do
  pub all_next : (test : Word → Bool) → test (word_at s p) ≡ true → all test (words_at s p (c - i)) ≡ all test (words_at s (after_word s p) (c - (i + 1)))
  all_next test passes = rw ((turn s p k c i less stand).words, passes)

-- no words are left, and all of them pass
pub all_end : (s : List ℕ) (p c i : ℕ) (test : Word → Bool) → c ≤ i → all test (words_at s p (c - i)) ≡ true
all_end s p c i test done = rw (turns_end s p c i done)
