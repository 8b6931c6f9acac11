-- Laws of the words at the first places: what stands there, and that every word of the section does.
use Prim.Native.Nat.{ℕ, zero, suc, ◌≤◌, ◌<◌}
use native.Mathlib.Omega.{arith}
use mathlib.Core.Path.{◌≡◌, sym, ◌∙◌, ap}
use mathlib.Core.Logic.{inl, inr}
use mathlib.Core.List.Memᴰ
use mathlib.Core.List.{List, []}
use lib.ListN.{length, get_or}
use Rattle.rules.specs.Lists.{◌∈◌, placed, any}
use Rattle.rules.specs.Words.{Word, same}
use Rattle.theory.specs.Lists.{outcome, clash, any-true, any_false, first-none, none_first, none_not_some, some_injective, keep-length, placed_length, get_or_in, of_keep, in_placed, of_placed, At, at_in, in_at}
use Rattle.theory.specs.Words.{same_refl, same_true}
use Rattle.reader.specs.Places.{word_at, after_word, words_at, word_place, WordsAt}
use Rattle.reader.specs.Turns.{words_count}
use Rattle.walker.specs.Walks.{Whole}
use Rattle.trie_filing.specs.Distinct.{firsts, is_first, FirstPlaces}
use Rattle.trie_filing.proofs.Firsts.{first-firsts}

-- the word number i
word_at_lem : (s : List ℕ) (p k c i : ℕ) (w : Word) → WordsAt s p k c → At (words_at s p c) i w → Whole s (word_place s p i) × (word_at s (word_place s p i) ≡ w)
unfolding words_at word_place
word_at_lem s p k zero i w stand at = none_not_some at
word_at_lem s p k (suc c) zero w stand at = (stand.0.inside, some_injective at)
word_at_lem s p k (suc c) (suc i) w stand at = word_at_lem s (after_word s p) k c i w stand.1 at

in_get_or : {A : Type 0} (d : A) {x : A} {l : List A} → x ∈ l → (j : ℕ) × (j < length l) × (get_or l j d ≡ x)
in_get_or d (Memᴰ.head h) = (0, omega arith, sym h)
in_get_or d (Memᴰ.tail m) = let (j, less, e) = in_get_or d m in (suc j, omega arith, e)

-- there are at most as many first places as words
pub firsts_few : (s : List ℕ) (p c : ℕ) (numbers places : List ℕ) (n : ℕ) → FirstPlaces s p c numbers places n → n ≤ c
firsts_few s p c numbers places n once =
    let ws = words_at s p c in
    omega (arith, once.counted, keep-length (is_first ws) (placed ws), placed_length 0 ws, words_count s p c)

module _ (s : List ℕ) (p k c : ℕ) {numbers places : List ℕ} {n : ℕ} (stand : WordsAt s p k c) (once : FirstPlaces s p c numbers places n) where
  abbrev ws : List Word
  ws = words_at s p c

  module _ (e : ℕ) (less : e < n) where
    one_first : get_or (firsts ws) e (0, []) ∈ placed ws
    one_first = (of_keep (is_first ws) (placed ws) (get_or_in (firsts ws) e (0, []) (omega (arith, once.counted)))).0

    -- the word at the first place number e
    pub first_place : Whole s (get_or places e 0) × (word_at s (get_or places e 0) ≡ (get_or (firsts ws) e (0, [])).1)
    first_place =
        let here = word_at_lem s p k c (get_or (firsts ws) e (0, [])).0 (get_or (firsts ws) e (0, [])).1 stand (of_placed ws one_first) in
        let same_place : get_or places e 0 ≡ word_place s p (get_or (firsts ws) e (0, [])).0 = once.place e less ∙ ap (word_place s p) (once.number e less) in
        rw same_place here

    -- is one of the words
    pub first_in : word_at s (get_or places e 0) ∈ ws
    first_in = rw first_place.1 (at_in ws _ (of_placed ws one_first))

  -- and every word stands at a first place
  pub first_there : (w : Word) → w ∈ ws → (j : ℕ) × (j < n) × (word_at s (get_or places j 0) ≡ w)
  first_there w m =
      elim (outcome (any (λ (i, v). same w v) (firsts ws))) [
        | inl some ↦
            let (x, in_firsts, alike) = any-true (λ (i, v). same w v) (firsts ws) some in
            let (j, below, at) = in_get_or (0, []) in_firsts in
            let less : j < n = omega (arith, once.counted) in
            (j, less, (first_place j less).1 ∙ ap (λ (y : ℕ × Word). y.1) at ∙ sym (same_true w x.1 alike))
        | inr none ↦
            let (i, at) = in_at m in
            let nowhere = first-firsts (same w) ws ∙ none_first (λ (i, v). same w v) (firsts ws) (λ x in_firsts. any_false (λ (i, v). same w v) none in_firsts) in
            clash (same_refl w) (first-none (λ (i, v). same w v) nowhere (in_placed ws i at))
      ]
