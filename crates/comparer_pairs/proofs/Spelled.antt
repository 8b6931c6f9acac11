-- Laws of the queue: what an entry holds, the word that leads to it, and that a new entry changes no earlier one.
use Prim.Native.Nat.{ℕ, zero, suc, ◌+◌, ◌≤◌, ◌<◌}
use native.Mathlib.Nat.{div-add-mod', mod-lt}
use native.Mathlib.Omega.{arith}
use native.Mathlib.Decide.{ℕ_discrete}
use mathlib.Core.Path.{◌≡◌, refl, ap, ◌∙◌}
use mathlib.Core.List.{List, [], ◌∷◌, ◌++◌}
use borrow.Author.Tests.{eq-eqb, ne_eqb}
use lib.Arith.{digits_div, digits_mod}
use lib.ListN.{length, get_or, set, length-append}
use lib.Seq.{get_or-set_same, get_or-set_other}
use Rattle.rules.specs.Sizes.{most_inputs}
use Rattle.rules.specs.Words.{Word}
use Rattle.comparer_pairs.specs.Pairs.{pairs}
use Rattle.comparer_pairs.specs.Queue.{step_of, entry_of, pair_at, step_at, parent_at, input_at, spelt, word_to, Falls}

module _ (queue : List ℕ) where
  -- the step by which an entry was met, and that its input is an input
  pub step_is : (j : ℕ) → step_of (parent_at queue j) (input_at queue j) ≡ step_at queue j
  unfolding parent_at input_at
  step_is j = div-add-mod' (step_at queue j) most_inputs

  pub input_small : (j : ℕ) → input_at queue j < most_inputs
  unfolding input_at
  input_small j = mod-lt (step_at queue j) (omega arith)

  module _ (n : ℕ) (falls : Falls queue n) where
    -- more steps than there are entries before it spell no other word
    spelt_enough : (f g j : ℕ) → j ≤ f → j ≤ g → j < n → spelt queue f j ≡ spelt queue g j
    unfolding spelt
    spelt_enough zero zero j a b h = refl
    spelt_enough zero (suc g) j a b h = let e : j ≡ 0 = omega arith in rw (eq-eqb j 0 e)
    spelt_enough (suc f) zero j a b h = let e : j ≡ 0 = omega arith in rw (eq-eqb j 0 e)
    spelt_enough (suc f) (suc g) j a b h =
        elim (ℕ_discrete j 0) [
          | yes e ↦ rw (eq-eqb j 0 e)
          | no ne ↦
              let less = falls.earlier j (omega arith) h in
              rw (ne_eqb j 0 ne) (ap (λ (w : Word). w ++ (input_at queue j ∷ [])) (spelt_enough f g (parent_at queue j) (omega arith) (omega arith) (omega arith)))
        ]

    pub word_next : (j : ℕ) → 0 < j → j < n → word_to queue j ≡ word_to queue (parent_at queue j) ++ (input_at queue j ∷ [])
    unfolding word_to spelt
    word_next zero some h = absurd (omega arith)
    word_next (suc j) some h =
        let less = falls.earlier (suc j) some h in
        let ne : ¬ (suc j ≡ 0) = λ e. absurd (omega arith) in
        rw (ne_eqb (suc j) 0 ne) (ap (λ (w : Word). w ++ (input_at queue (suc j) ∷ [])) (spelt_enough j (parent_at queue (suc j)) (parent_at queue (suc j)) (omega arith) (omega arith) (omega arith)))

    spelt_short : (f j : ℕ) → j < n → length (spelt queue f j) ≤ j
    unfolding spelt
    spelt_short zero j h = omega arith
    spelt_short (suc f) j h =
        elim (ℕ_discrete j 0) [
          | yes e ↦ rw (eq-eqb j 0 e) (omega arith)
          | no ne ↦
              let less = falls.earlier j (omega arith) h in
              rw (ne_eqb j 0 ne) (omega (arith, length-append (spelt queue f (parent_at queue j)) (input_at queue j ∷ []), spelt_short f (parent_at queue j) (omega arith)))
        ]

    -- a word has at most as many inputs as there are entries before it
    pub word_short : (j : ℕ) → j < n → length (word_to queue j) ≤ j
    unfolding word_to
    word_short j h = spelt_short j j h

pub word_start : (queue : List ℕ) → word_to queue 0 ≡ []
unfolding word_to spelt
word_start queue = refl

-- fewer entries fall too
pub falls_less : (queue : List ℕ) (m n : ℕ) → m ≤ n → Falls queue n → Falls queue m
falls_less queue m n le falls = record { earlier = λ j some h. falls.earlier j some (omega arith) }

-- a new entry behind n others
module _ (queue : List ℕ) (n j₀ i₀ p : ℕ) (room : n < length queue) (input : i₀ < most_inputs) (pair : p < pairs) where
  abbrev grown : List ℕ
  grown = set queue n (entry_of (step_of j₀ i₀) p)

  pub new_pair : pair_at grown n ≡ p
  unfolding pair_at
  new_pair = rw (get_or-set_same queue n (entry_of (step_of j₀ i₀) p) 0 room) (digits_mod (step_of j₀ i₀) pair)

  pub new_step : step_at grown n ≡ step_of j₀ i₀
  unfolding step_at
  new_step = rw (get_or-set_same queue n (entry_of (step_of j₀ i₀) p) 0 room) (digits_div (step_of j₀ i₀) pair)

  pub new_parent : parent_at grown n ≡ j₀
  unfolding parent_at
  new_parent = rw new_step (digits_div j₀ input)

  pub new_input : input_at grown n ≡ i₀
  unfolding input_at
  new_input = rw new_step (digits_mod j₀ input)

  module _ (j : ℕ) (less : j < n) where
    old : get_or grown j 0 ≡ get_or queue j 0
    old = get_or-set_other queue n j (entry_of (step_of j₀ i₀) p) 0 (omega arith)

    pub old_pair : pair_at grown j ≡ pair_at queue j
    unfolding pair_at
    old_pair = rw old

    pub old_step : step_at grown j ≡ step_at queue j
    unfolding step_at
    old_step = rw old

    pub old_parent : parent_at grown j ≡ parent_at queue j
    unfolding parent_at
    old_parent = rw old_step

    pub old_input : input_at grown j ≡ input_at queue j
    unfolding input_at
    old_input = rw old_step

  module _ (falls : Falls queue n) where
    spelt_old : (f j : ℕ) → j < n → spelt grown f j ≡ spelt queue f j
    unfolding spelt
    spelt_old zero j h = refl
    spelt_old (suc f) j h =
        elim (ℕ_discrete j 0) [
          | yes e ↦ rw (eq-eqb j 0 e)
          | no ne ↦
              let less = falls.earlier j (omega arith) h in
              rw (ne_eqb j 0 ne, old_parent j h, old_input j h, spelt_old f (parent_at queue j) (omega arith))
        ]

    pub old_word : (j : ℕ) → j < n → word_to grown j ≡ word_to queue j
    unfolding word_to
    old_word j h = spelt_old j j h

    pub falls_more : j₀ < n → Falls grown (n + 1)
    falls_more less =
        record {
          earlier = λ j some h.
              elim (ℕ_discrete j n) [
                | yes e ↦ rw (e, new_parent) less
                | no ne ↦ let before : j < n = omega arith in rw (old_parent j before) (falls.earlier j some before)
              ];
        }

    pub new_word : 0 < n → j₀ < n → word_to grown n ≡ word_to queue j₀ ++ (i₀ ∷ [])
    new_word some less = word_next grown (n + 1) (falls_more less) n some (omega arith) ∙ rw (new_parent, new_input, old_word j₀ less)
