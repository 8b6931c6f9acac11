-- Laws of looking up: the test of a number, and the output at a step of an answer.
use Prim.Native.Nat.{ℕ, suc, ◌+◌, ◌-◌, ◌≤◌, ◌<◌}
use native.Mathlib.Omega.{arith}
use native.Mathlib.Nat.{sub-zero}
use mathlib.Core.Path.{◌≡◌, sym, ◌∙◌}
use mathlib.Core.List.{List}
use lib.ListN.{length, get_or, drop, get_elem?}
use Rattle.rules.specs.Words.{Word}
use Rattle.rules.specs.Machines.{Machine, answer, answer_from}
use Rattle.theory.specs.Lists.{At}
use Rattle.reader.specs.Places.{word_at, words_at, WordAt, WordsAt}
use Rattle.reader.specs.Turns.{WordTurn, word_turn}
use Rattle.walker.proofs.Words.{rest_more}

-- Of c words from `first` on, i are passed and the next stands at p. The word number n is n - i words on.
pub record Passing (s : List ℕ) (first k c n p i : ℕ) : Type 0 where
  pub within : i ≤ n
  pub words : WordsAt s p k (c - i)
  pub same : get_elem? (words_at s first c) n ≡ get_elem? (words_at s p (c - i)) (n - i)

module _ (s : List ℕ) (first k c n : ℕ) (inside : n < c) where
  pub passing_start : WordsAt s first k c → Passing s first k c n first 0
  passing_start words =
      record { within = omega arith; words = rw (sub-zero c) words; same = rw (sub-zero c, sub-zero n) }

  module _ (p i : ℕ) (so_far : Passing s first k c n p i) where
    turn : WordTurn s p k (c - i)
    turn = word_turn s p k (c - i) (omega (arith, so_far.within)) so_far.words

    pub passing_word : WordAt s p k
    passing_word = turn.here

    pub passing_next : (b : ℕ) → i < n → b ≡ get_or s p 0 → Passing s first k c n (p + 1 + b) (i + 1)
    passing_next b less is =
        let fewer : c - (i + 1) ≡ c - i - 1 = omega arith in
        let nearer : n - i ≡ suc (n - (i + 1)) = omega arith in
        record {
          within = omega arith;
          words = rw (is, fewer) turn.rest;
          same = so_far.same ∙ rw (turn.words, nearer, is, fewer);
        }

    pub passing_here : n ≤ i → WordAt s p k × At (words_at s first c) n (word_at s p)
    passing_here done =
        let none : n - i ≡ 0 = omega arith in
        (turn.here, so_far.same ∙ rw (turn.words, none))

-- After i inputs of w the machine is in the state q, and the output at the step j is j - i steps on.
pub record Ahead (M : Machine) (w : Word) (j q i : ℕ) : Type 0 where
  pub within : i ≤ j
  pub below : q < M.states
  pub same : get_or (answer M w) j 0 ≡ get_or (answer_from M q (drop i w)) (j - i) 0

module _ (M : Machine) (w : Word) (j : ℕ) where
  pub ahead_start : (q : ℕ) → q ≡ 0 → 0 < M.states → Ahead M w j q 0
  ahead_start q zeroth some = record { within = omega arith; below = rw zeroth some; same = rw (zeroth, sub-zero j) }

  module _ (inside : j < length w) (q i a : ℕ) (so_far : Ahead M w j q i) (is : a ≡ get_or w i 0) where
    pub ahead_next : (q' : ℕ) → i < j → q' ≡ M.next q a → q' < M.states → Ahead M w j q' (i + 1)
    ahead_next q' less to below =
        let nearer : j - i ≡ suc (j - (i + 1)) = omega arith in
        record {
          within = omega arith;
          below = below;
          same = so_far.same ∙ rw (rest_more w i (omega arith), nearer, to, is);
        }

    pub ahead_here : (o : ℕ) → j ≤ i → o ≡ M.output q a → o ≡ get_or (answer M w) j 0
    ahead_here o done out =
        let none : j - i ≡ 0 = omega arith in
        let here : i < length w = omega (arith, so_far.within) in
        sym (so_far.same ∙ rw (rest_more w i here, none, out, is))
