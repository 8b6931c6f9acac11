-- Laws of the queue: what a new entry holds, that it changes no earlier one, and the word that leads to it.
use Prim.Native.Nat.{ℕ, ◌+◌, ◌<◌}
use native.Mathlib.Omega.{arith}
use native.Mathlib.Decide.{ℕ_discrete}
use mathlib.Core.Path.{◌≡◌, refl, ap, ◌∙◌}
use mathlib.Core.List.{List, [], ◌∷◌, ◌++◌}
use mathlib.Core.Bool.{cond}
use borrow.Author.Tests.{eq-eqb, ne_eqb}
use lib.Arith.{digits_div, digits_mod}
use lib.Dec.{eqb}
use lib.ListN.{length, get_or, set}
use lib.Seq.{get_or-set_same, get_or-set_other}
use Rattle.rules.specs.Sizes.{most_inputs, most_states}
use Rattle.rules.specs.Words.{Word}
use Rattle.theory.specs.Breadth.{step_of}
use Rattle.finder_access.specs.Queue.{entry_of, state_at, step_at, parent_at, input_at, Falls, Spelt}

-- what a list has at q, where it was looked up at n
pub looked : (l : List ℕ) {n q r : ℕ} → r ≡ get_or l n 0 → n ≡ q → r ≡ get_or l q 0
looked l is at = is ∙ ap (λ m. get_or l m 0) at

-- fewer entries fall, and are spelt, too
pub spelt_less : {queue : List ℕ} {m n : ℕ} {word : ℕ → Word} → m < n + 1 → Spelt queue n word → Spelt queue m word
spelt_less le s =
    record {
      falls = record { earlier = λ j some h. s.falls.earlier j some (omega arith) };
      start = s.start;
      step = λ j some h. s.step j some (omega arith);
    }

-- a new entry behind n others
module _ (queue : List ℕ) (n j₀ i₀ p : ℕ) (room : n < length queue) (input : i₀ < most_inputs) (state : p < most_states) where
  abbrev pub grown : List ℕ
  grown = set queue n (entry_of (step_of j₀ i₀) p)

  pub new_state : state_at grown n ≡ p
  unfolding state_at
  new_state = rw (get_or-set_same queue n (entry_of (step_of j₀ i₀) p) 0 room) (digits_mod (step_of j₀ i₀) state)

  new_step : step_at grown n ≡ step_of j₀ i₀
  unfolding step_at
  new_step = rw (get_or-set_same queue n (entry_of (step_of j₀ i₀) p) 0 room) (digits_div (step_of j₀ i₀) state)

  new_parent : parent_at grown n ≡ j₀
  unfolding parent_at
  new_parent = rw new_step (digits_div j₀ input)

  new_input : input_at grown n ≡ i₀
  unfolding input_at
  new_input = rw new_step (digits_mod j₀ input)

  module _ (j : ℕ) (less : j < n) where
    old : get_or grown j 0 ≡ get_or queue j 0
    old = get_or-set_other queue n j (entry_of (step_of j₀ i₀) p) 0 (omega arith)

    pub old_state : state_at grown j ≡ state_at queue j
    unfolding state_at
    old_state = rw old

    old_parent : parent_at grown j ≡ parent_at queue j
    unfolding parent_at step_at
    old_parent = rw old

    old_input : input_at grown j ≡ input_at queue j
    unfolding input_at step_at
    old_input = rw old

  module _ (word : ℕ → Word) where
    abbrev pub grown_word : ℕ → Word
    grown_word j = cond (eqb j n) (word j₀ ++ (i₀ ∷ [])) (word j)

    pub old_word : (j : ℕ) → j < n → grown_word j ≡ word j
    old_word j less = rw (ne_eqb j n (λ e. omega arith))

    pub new_word : grown_word n ≡ word j₀ ++ (i₀ ∷ [])
    new_word = rw (eq-eqb n n refl)

    module _ (s : Spelt queue n word) (some : 0 < n) (earlier : j₀ < n) where
      falls_more : Falls grown (n + 1)
      falls_more =
          record {
            earlier = λ j some h.
                elim (ℕ_discrete j n) [
                  | yes e ↦ rw (e, new_parent) earlier
                  | no ne ↦ let less : j < n = omega arith in rw (old_parent j less) (s.falls.earlier j some less)
                ];
          }

      step-more : (j : ℕ) → 0 < j → j < n + 1 → grown_word j ≡ grown_word (parent_at grown j) ++ (input_at grown j ∷ [])
      step-more j some' h =
          elim (ℕ_discrete j n) [
            | yes e ↦ rw (e, new_parent, new_input, old_word j₀ earlier) new_word
            | no ne ↦
                let less : j < n = omega arith in
                let before = s.falls.earlier j some' less in
                rw (old_parent j less, old_input j less, old_word j less, old_word (parent_at queue j) (omega arith)) (s.step j some' less)
          ]

      pub spelt_more : Spelt grown (n + 1) grown_word
      spelt_more = record { falls = falls_more; start = old_word 0 some ∙ s.start; step = step-more }
