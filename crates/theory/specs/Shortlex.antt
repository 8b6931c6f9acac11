-- The words of at most b inputs, by length and then by inputs: which they are, that they are in that order, and what a search
-- among them finds.
use Rattle.std.specs.Prelude.{◌≡◌, refl, ◌↔◌, [], ◌∷◌, map, ℕ, zero, suc, ◌≤◌, ◌<◌, Bool, true, false, length}
use Rattle.std.proofs.Common.{ap, inl, inr, arith, lt-ltb}
use mathlib.Core.List.Memᴰ
use Rattle.std.proofs.Math.Decide.{dec_le}
use Rattle.std.proofs.Math.Option.{none, some}
use Rattle.rules.specs.Lists.{◌∈◌, numbers, first}
use Rattle.rules.specs.Words.{Word, Valid, by_inputs, words_of, shortlex}
use Rattle.theory.specs.Lists.{clash, first-none, none_first, first_least, least_first, Rising, rising_too, append_rising, map_rising, flat_map_rising, numbers_rising, in_flat_map, of_flat_map, in_numbers, of_numbers}
use Rattle.theory.specs.Orders.{ByInputs, ByLength, first_then_says, shorter_first, by_length_short, by_length_one_way}

in_words_of : (k : ℕ) (w : Word) → Valid k w → w ∈ words_of k (length w)
unfolding words_of
in_words_of k [] v = Memᴰ.head refl
in_words_of k (i ∷ w) (h, v) = in_flat_map _ (in_numbers 0 k i (omega arith) (omega arith)) (Memᴰ.map (λ w. i ∷ w) (in_words_of k w v))

of_words_of : (k n : ℕ) {w : Word} → w ∈ words_of k n → Valid k w × (length w ≡ n)
unfolding words_of
of_words_of k zero m = rw (Memᴰ.eq_of_singleton m) (tt, refl)
of_words_of k (suc n) m =
    let (i, in_i, in_w) = of_flat_map _ (numbers k) m in
    let (w, in_words_lem, e) = Memᴰ.of_map (λ w. i ∷ w) (words_of k n) in_w in
    let (v, h) = of_words_of k n in_words_lem in
    let (low, high) = of_numbers 0 k in_i in
    rw (← e) ((omega arith, v), ap suc h)

-- They are the valid words of at most b inputs.
pub in_shortlex : (k b : ℕ) (w : Word) → (w ∈ shortlex k b) ↔ (Valid k w × (length w ≤ b))
unfolding shortlex
in_shortlex k zero w = (
  λ m. let (v, h) = of_words_of k zero m in (v, omega arith),
  λ (v, h). let e : length w ≡ 0 = omega arith in rw e at (in_words_of k w v),
)
in_shortlex k (suc b) w = (
  λ m.
      elim (Memᴰ.append_cases (shortlex k b) m) [
        | inl shorter ↦ let (v, h) = (in_shortlex k b w).0 shorter in (v, omega arith)
        | inr longest ↦ let (v, h) = of_words_of k (suc b) longest in (v, omega arith)
      ],
  λ (v, h).
      elim (dec_le (length w) b) [
        | yes short ↦ Memᴰ.append_left (words_of k (suc b)) ((in_shortlex k b w).1 (v, short))
        | no long ↦ let e : length w ≡ suc b = omega arith in Memᴰ.append_right (shortlex k b) (rw e at (in_words_of k w v))
      ],
)

words_of_rising : (k n : ℕ) → Rising ByInputs (words_of k n)
unfolding words_of
words_of_rising k zero = (λ w in_w. absurd (Memᴰ.not-nil in_w), tt)
words_of_rising k (suc n) =
    flat_map_rising ◌<◌ ByInputs (λ i. map (λ w. i ∷ w) (words_of k n))
    (λ i. map_rising ByInputs ByInputs (λ w. i ∷ w) (λ v w h. (first_then_says i i (by_inputs v w)).1 (inr (refl, h))) (words_of k n) (words_of_rising k n))
    across (numbers k) (numbers_rising 0 k)
  where
    across : (i j : ℕ) → i < j → (v w : Word) → v ∈ map (λ w. i ∷ w) (words_of k n) → w ∈ map (λ w. j ∷ w) (words_of k n) → ByInputs v w
    across i j less v w in_v in_w =
        let (v', _, e) = Memᴰ.of_map (λ w. i ∷ w) (words_of k n) in_v in
        let (w', _, e') = Memᴰ.of_map (λ w. j ∷ w) (words_of k n) in_w in
        rw (← e, ← e', lt-ltb i j less)

-- Among words of one length the order by length is the order by inputs.
by_length : (k n : ℕ) → Rising ByLength (words_of k n)
by_length k n =
    rising_too ByInputs ByLength (words_of k n)
    (λ v w in_v in_w h.
    let (_, e) = of_words_of k n in_v in
    let (_, e') = of_words_of k n in_w in
    (first_then_says (length v) (length w) (by_inputs v w)).1 (inr (omega arith, h)))
    (words_of_rising k n)

-- They are in that order.
pub shortlex_rising : (k b : ℕ) → Rising ByLength (shortlex k b)
unfolding shortlex
shortlex_rising k zero = by_length k zero
shortlex_rising k (suc b) =
    append_rising ByLength (shortlex k b) (words_of k (suc b)) (shortlex_rising k b) (by_length k (suc b))
    (λ v w in_v in_w.
    let (_, short) = (in_shortlex k b v).0 in_v in
    let (_, long) = of_words_of k (suc b) in_w in
    shorter_first v w (omega arith))

-- w passes the test, and no word that is shorter, or as long and earlier by inputs, does
pub record FirstWord (k : ℕ) (test : Word → Bool) (w : Word) : Type 0 where
  pub valid : Valid k w
  pub passes : test w ≡ true
  pub earlier : (v : Word) → Valid k v → ByLength v w → test v ≡ false

-- It has no more inputs than another that passes.
pub first_word_short : {k : ℕ} {test : Word → Bool} {w : Word} → FirstWord k test w → (v : Word) → Valid k v → test v ≡ true → length w ≤ length v
first_word_short {w} f v valid passes =
    elim (dec_le (length w) (length v)) [ yes le ↦ le | no more ↦ clash passes (f.earlier v valid (shorter_first v w (omega arith))) ]

module _ (k b : ℕ) (test : Word → Bool) where
  -- What is found among the words of at most b inputs is the first of all words that passes.
  pub found_word : {w : Word} → first test (shortlex k b) ≡ some w → FirstWord k test w × (length w ≤ b)
  found_word {w} e =
      let least = first_least ByLength by_length_one_way test (shortlex k b) (shortlex_rising k b) e in
      let (valid, short) = (in_shortlex k b w).0 least.found in (
        record {
          valid = valid;
          passes = least.passes;
          earlier = λ v valid_v before.
              let less = by_length_short v w before in
              least.earlier v ((in_shortlex k b v).1 (valid_v, omega arith)) before;
        },
        short,
      )

  pub word_found : {w : Word} → FirstWord k test w → length w ≤ b → first test (shortlex k b) ≡ some w
  word_found {w} f short =
      least_first ByLength by_length_one_way test (shortlex k b) (shortlex_rising k b)
      (record {
        found = (in_shortlex k b w).1 (f.valid, short);
        passes = f.passes;
        earlier = λ v m before. f.earlier v ((in_shortlex k b v).0 m).0 before;
      })

  -- Where nothing is found, none of them passes.
  pub none_found : first test (shortlex k b) ≡ none → (v : Word) → Valid k v → length v ≤ b → test v ≡ false
  none_found e v valid short = first-none test e ((in_shortlex k b v).1 (valid, short))

  pub found_none : ((v : Word) → Valid k v → length v ≤ b → test v ≡ false) → first test (shortlex k b) ≡ none
  found_none h = none_first test (shortlex k b) (λ v m. let (valid, short) = (in_shortlex k b v).0 m in h v valid short)
