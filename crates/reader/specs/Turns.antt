-- Going through words or records one by one: what stands at the place of the first, and what is left from the place after it on.
use Rattle.std.specs.Prelude.{ℕ, zero, suc, ◌+◌, ◌-◌, ◌≤◌, ◌<◌, ◌≡◌, refl, List, [], ◌∷◌, length, get_or, take, drop}
use Rattle.std.proofs.Common.{arith, ap}
use Rattle.reader.specs.Places.{word_at, after_word, words_at, WordAt, WordsAt}

-- one turn of a loop over c words from p on
pub record WordTurn (s : List ℕ) (p k c : ℕ) : Type 0 where
  pub here : WordAt s p k
  pub rest : WordsAt s (after_word s p) k (c - 1)
  pub words : words_at s p c ≡ word_at s p ∷ words_at s (after_word s p) (c - 1)

pub word_turn : (s : List ℕ) (p k c : ℕ) → 0 < c → WordsAt s p k c → WordTurn s p k c
unfolding words_at
word_turn s p k zero some stand = absurd (omega arith)
word_turn s p k (suc c) some (here, rest) =
    let less : suc c - 1 ≡ c = omega arith in
    record { here = here; rest = rw less rest; words = rw less }

-- no words are left
pub words_end : (s : List ℕ) (p c : ℕ) → c ≤ 0 → words_at s p c ≡ []
unfolding words_at
words_end s p zero h = refl
words_end s p (suc c) h = absurd (omega arith)

-- there are c of them
pub words_count : (s : List ℕ) (p c : ℕ) → length (words_at s p c) ≡ c
unfolding words_at
words_count s p zero = refl
words_count s p (suc c) = ap suc (words_count s (after_word s p) c)

module _ (s : List ℕ) (p k c n : ℕ) (some : 0 < c) (stand : WordsAt s p k c) where
  -- the word at p is inside
  pub word_room : n ≡ get_or s p 0 → p + 1 + n ≤ length s
  word_room e = omega (arith, (word_turn s p k c some stand).here.inside)

  -- after it stand the others
  pub words_after : n ≡ get_or s p 0 → WordsAt s (p + 1 + n) k (c - 1)
  words_after e = rw e (word_turn s p k c some stand).rest

-- the part of the bytes behind the length byte is the word
pub word_part : (s : List ℕ) (p n : ℕ) → n ≡ get_or s p 0 → take (p + 1 + n - (p + 1)) (drop (p + 1) s) ≡ word_at s p
unfolding word_at
word_part s p n e = let same : p + 1 + n - (p + 1) ≡ get_or s p 0 = omega arith in rw same
