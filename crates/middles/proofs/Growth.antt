-- What the turns and the calls of the functions give, in plain words and numbers.
use Prim.Native.Nat.{ℕ, zero, suc, ◌+◌, ◌-◌, ◌*◌, ◌/◌, ◌%◌, ◌≤◌, ◌<◌}
use mathlib.Core.Path.{◌≡◌, sym, ap, ◌∙◌}
use mathlib.Core.List.{[], ◌∷◌, ◌++◌, append_assoc, append-nil}
use native.Mathlib.Nat.{mul_comm, suc-mul}
use native.Mathlib.Numerals.{add-one}
use native.Mathlib.Omega.{arith}
use lib.ListN.{length, get_or}
use Rattle.rules.specs.declared.Input.{Input}
use Rattle.rules.specs.declared.Middle.{Middle}
use Rattle.rules.specs.Words.{Word, words_of, shortlex}
use Rattle.rules.specs.Answers.{middle_of}
use Rattle.middles.specs.Middles.{words_from}
use Rattle.middles.specs.Places.{words_more, words_most, middles_more, middles_most, first_lt, rest_lt, split_word, at_length, past_length}

product_pos : (a b : ℕ) → 0 < a → 0 < b → 0 < a * b
product_pos zero b ha hb = absurd (omega arith)
product_pos (suc a) b ha hb = rw suc-mul (omega arith)

-- A turn of the loop that counts the words of a length.
pub words_turn : (k n words : ℕ) → 0 < k → k ≤ 16 → n < 5 → words ≡ length (words_of k n) → 0 < words
    → (words * k ≡ length (words_of k (n + 1))) × (0 < words * k) × (words * k ≤ 1048576)
words_turn k n words some hk hn is pos =
    let e : words * k ≡ length (words_of k (n + 1)) = rw (is, add-one, words_more) (mul_comm (length (words_of k n)) k) in
    let most : n + 1 ≤ 5 = omega arith in
    (e, product_pos words k pos some, omega (arith, words_most k (n + 1) hk most))

-- The empty word is the only middle of no inputs.
pub no_more : (k most : ℕ) → most ≡ 0 → 1 ≡ length (shortlex k most)
unfolding shortlex words_of
no_more k most z = rw z

-- The middles of one length more, of which there are `words`.
pub count_more : (k most c words : ℕ) → (most ≡ 0 → ⊥) → k ≤ 16 → most ≤ 5 → c ≡ length (shortlex k (most - 1)) → words ≡ length (words_of k most)
    → (c + words ≡ length (shortlex k most)) × (c + words ≤ 1118481)
count_more k most c words ne hk hm shorter longest =
    let suc_of : suc (most - 1) ≡ most = omega arith in
    let e : length (shortlex k most) ≡ length (shortlex k (most - 1)) + length (words_of k most) = rw suc_of at (middles_more k (most - 1)) in
    (omega arith, omega (arith, middles_most k most hk hm))

-- The word of no inputs leaves a middle as it is.
pub none_left : (k left x : ℕ) (m : Middle) (w : Word) → left ≡ 0 → x < length (words_of k left) → m ≡ middle_of w → m ≡ middle_of (w ++ get_or (words_of k left) x [])
unfolding words_of
none_left k left x m w z h e =
    let less : x < 1 = rw z at h in
    let first : x ≡ 0 = omega arith in
    rw (z, first, append-nil) e

-- One input more, where some are left: that of the row that x is in.
module _ (k left x row : ℕ) (ne : left ≡ 0 → ⊥) (is : row ≡ length (words_of k (left - 1))) (h : x < length (words_of k left)) where
  suc_of : left ≡ suc (left - 1)
  suc_of = omega arith

  longer : x < length (words_of k (suc (left - 1)))
  longer = rw (← suc_of) h

  pub next_lt : x / row < k
  next_lt = first_lt k (left - 1) x row is longer

  pub others_lt : x % row < length (words_of k (left - 1))
  others_lt = rest_lt k (left - 1) x row is longer

  pub one_more : (m g r : Middle) (i : Input) (w : Word) → m.len + left ≤ 5 → i.0 ≡ x / row
      → ((v : Word) → m ≡ middle_of v → length v < 5 → g ≡ middle_of (v ++ (i.0 ∷ [])))
      → ((v : Word) → g ≡ middle_of v → r ≡ middle_of (v ++ get_or (words_of k (left - 1)) (x % row) []))
      → m ≡ middle_of w → r ≡ middle_of (w ++ get_or (words_of k left) x [])
  one_more m g r i w fits input grows goes_on e =
      let len : m.len ≡ length w = ap (λ (y : Middle). y.len) e in
      let short : length w < 5 = omega arith in
      let others : Word = get_or (words_of k (left - 1)) (x % row) [] in
      goes_on (w ++ (i.0 ∷ [])) (grows w e short)
      ∙ ap middle_of (append_assoc w (i.0 ∷ []) others
      ∙ ap (λ (v : Word). w ++ v) (ap (λ (j : ℕ). j ∷ others) input ∙ sym (split_word k (left - 1) x row is longer) ∙ ap (λ (n : ℕ). get_or (words_of k n) x []) (sym suc_of)))

-- The middle at place x among those of n inputs, and among those of more.
module _ (k n left x words : ℕ) (is : words ≡ length (words_of k n)) where
  pub this_length : (m r : Middle) → m ≡ middle_of [] → ((w : Word) → m ≡ middle_of w → r ≡ middle_of (w ++ get_or (words_of k n) x [])) → x < words
      → r ≡ middle_of (get_or (words_from k n left) x [])
  this_length m r none grows h = grows [] none ∙ ap middle_of (sym (at_length k n x words is left h))

  pub more_length : (r : Middle) → words ≤ x → x < length (words_from k n left) → r ≡ middle_of (get_or (words_from k (n + 1) (left - 1)) (x - words) [])
      → r ≡ middle_of (get_or (words_from k n left) x [])
  more_length r h less e = e ∙ ap middle_of (sym (past_length k n x words is left h less).2)
