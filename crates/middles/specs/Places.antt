-- How many words there are, and which stands at a place.
use Prim.Native.Nat.{ℕ, zero, suc, ◌+◌, ◌-◌, ◌*◌, ◌/◌, ◌%◌, ◌^◌, ◌≤◌, ◌<◌}
use Rattle.std.specs.Prelude.{◌≡◌, cond, eqb}
use Rattle.std.proofs.Math.Path.{refl, ap}
use Rattle.std.proofs.Common.{sym, ◌∙◌, pow-suc, div-add-mod', div-lt_iff_lt-mul, mul_comm, mul-zero, add-zero}
use mathlib.Core.List.{List, [], ◌∷◌, ◌++◌, map, flat_map, append_assoc}
use Rattle.std.proofs.Math.Nat.{pow-zero, pow-le-pow_left, pow-le-pow_right, mod-lt, suc-mul, zero-mul, zero-add}
use native.Mathlib.Omega.{arith}
use Rattle.std.proofs.Math.ListN.{length, get_or, length-append, get_or-append}
use Rattle.std.proofs.lemmas.List.{length-map}
use Rattle.std.proofs.Math.Seq.{get_or-append-add}
use Rattle.rules.specs.declared.Input.{Input}
use Rattle.rules.specs.declared.Middle.{Middle}
use Rattle.rules.specs.Lists.{numbers, numbers_from}
use Rattle.rules.specs.Words.{Word, words_of, shortlex}
use Rattle.rules.specs.Answers.{middle_of}
use Rattle.middles.specs.Middles.{words_from}

-- The middle of the empty word.
pub none_word : (none : Input) → none.0 ≡ 0 → record { len = 0; a = none; b = none; c = none; d = none; e = none } ≡ middle_of []
none_word none zero_is = ap (λ (i : ℕ). record { len = 0; a = record { 0 = i }; b = record { 0 = i }; c = record { 0 = i }; d = record { 0 = i }; e = record { 0 = i } }) zero_is

-- One input more at the end of a word, field by field.
module _ (i a b c d e : Input) where
  pub longer_word : (w : Word) (m : Middle) → m ≡ middle_of w → length w < 5
      → a ≡ cond (eqb m.len 0) i m.a → b ≡ cond (eqb m.len 1) i m.b → c ≡ cond (eqb m.len 2) i m.c
      → d ≡ cond (eqb m.len 3) i m.d → e ≡ cond (eqb m.len 4) i m.e
      → record { len = m.len + 1; a = a; b = b; c = c; d = d; e = e } ≡ middle_of (w ++ (i.0 ∷ []))
  longer_word [] m is h p q r s t = rw (p, q, r, s, t, is)
  longer_word (u ∷ []) m is h p q r s t = rw (p, q, r, s, t, is)
  longer_word (u ∷ v ∷ []) m is h p q r s t = rw (p, q, r, s, t, is)
  longer_word (u ∷ v ∷ x ∷ []) m is h p q r s t = rw (p, q, r, s, t, is)
  longer_word (u ∷ v ∷ x ∷ y ∷ []) m is h p q r s t = rw (p, q, r, s, t, is)
  longer_word (u ∷ v ∷ x ∷ y ∷ z ∷ w) m is h p q r s t = absurd (omega arith)

pub get_map : {A B : Type 0} (f : A → B) (l : List A) (r : ℕ) (d : A) (e : B) → r < length l → get_or (map f l) r e ≡ f (get_or l r d)
get_map f [] r d e h = absurd (omega arith)
get_map f (a ∷ l) zero d e h = refl
get_map f (a ∷ l) (suc r) d e h = let h' : r < length l = omega arith in get_map f l r d e h'

-- Rows of one length, a row for each number from i on.
module _ {A : Type 0} (f : ℕ → List A) (row : ℕ) (each : (i : ℕ) → length (f i) ≡ row) where
  rows_length : (i c : ℕ) → length (flat_map f (numbers_from i c)) ≡ c * row
  unfolding flat_map
  rows_length i zero = rw zero-mul
  rows_length i (suc c) = rw (length-append, each i, rows_length (suc i) c, suc-mul) (omega arith)

  rows_get : (i c j r : ℕ) (d : A) → j < c → r < row → get_or (flat_map f (numbers_from i c)) (j * row + r) d ≡ get_or (f (i + j)) r d
  unfolding flat_map
  rows_get i zero j r d hj hr = absurd (omega arith)
  rows_get i (suc c) zero r d hj hr =
      let l : r < length (f i) = omega (arith, each i) in
      rw (zero-mul, zero-add, add-zero) (get_or-append (f i) (flat_map f (numbers_from (suc i) c)) d r l)
  rows_get i (suc c) (suc j) r d hj hr =
      let e : suc j * row + r ≡ length (f i) + (j * row + r) = omega (arith, each i, suc-mul j row) in
      let e' : suc i + j ≡ i + suc j = omega arith in
      let hj' : j < c = omega arith in
      rw (e, get_or-append-add) (rows_get (suc i) c j r d hj' hr ∙ rw e')

-- There are k times as many words of one input more.
pub words_more : (k n : ℕ) → length (words_of k (suc n)) ≡ k * length (words_of k n)
unfolding words_of
words_more k n = rows_length (λ i. map (λ w. i ∷ w) (words_of k n)) (length (words_of k n)) (λ i. rw length-map) 0 k

pub words_length : (k n : ℕ) → length (words_of k n) ≡ k ^ n
words_length k zero = unfold words_of in rw pow-zero
words_length k (suc n) = rw (words_more k n, words_length k n, pow-suc) (mul_comm k (k ^ n))

row_pos : (k row x : ℕ) → x < k * row → 0 < row
row_pos k zero x h = let z : x < 0 = rw mul-zero at h in absurd (omega arith)
row_pos k (suc row) x h = omega arith

-- The word at place x: its first input is the row that x is in, and the others are those of the word at x's place in the row.
module _ (k n x row : ℕ) (is : row ≡ length (words_of k n)) (h : x < length (words_of k (suc n))) where
  within : x < k * row
  within = rw is (rw words_more at h)

  pub first_lt : x / row < k
  first_lt = (div-lt_iff_lt-mul (row_pos k row x within)).1 within

  pub rest_lt : x % row < length (words_of k n)
  rest_lt = rw (← is) (mod-lt x (row_pos k row x within))

  pub split_word : get_or (words_of k (suc n)) x [] ≡ x / row ∷ get_or (words_of k n) (x % row) []
  unfolding words_of
  split_word =
      let f : ℕ → List Word = λ i. map (λ w. i ∷ w) (words_of k n) in
      let less : x % row < row = mod-lt x (row_pos k row x within) in
      ap (λ (y : ℕ). get_or (flat_map f (numbers k)) y []) (sym (div-add-mod' x row))
      ∙ rows_get f row (λ i. rw (length-map, ← is)) 0 k (x / row) (x % row) [] first_lt less
      ∙ rw zero-add (get_map (λ w. x / row ∷ w) (words_of k n) (x % row) [] [] rest_lt)

-- Of at most 16 inputs, the words of a length and the middles are this many at most.
pub words_most : (k n : ℕ) → k ≤ 16 → n ≤ 5 → length (words_of k n) ≤ 1048576
words_most k n hk hn =
    let each : k ^ n ≤ 16 ^ n = pow-le-pow_left hk n in
    let longest : 16 ^ n ≤ 16 ^ 5 = pow-le-pow_right (omega arith) hn in
    omega (arith, words_length k n)

pub middles_more : (k b : ℕ) → length (shortlex k (suc b)) ≡ length (shortlex k b) + length (words_of k (suc b))
unfolding shortlex
middles_more k b = length-append (shortlex k b) (words_of k (suc b))

-- a sum of powers of 16
pub fifteen : (k b : ℕ) → k ≤ 16 → 15 * length (shortlex k b) < 16 ^ suc b
fifteen k zero hk = unfold shortlex words_of in omega arith
fifteen k (suc b) hk =
    let shorter = fifteen k b hk in
    let each : k ^ suc b ≤ 16 ^ suc b = pow-le-pow_left hk (suc b) in
    omega (arith, middles_more k b, words_length k (suc b), pow-suc 16 (suc b))

pub middles_most : (k b : ℕ) → k ≤ 16 → b ≤ 5 → length (shortlex k b) ≤ 1118481
middles_most k b hk hb =
    let longest : 16 ^ suc b ≤ 16 ^ 6 = let most : suc b ≤ 6 = omega arith in pow-le-pow_right (omega arith) most in
    omega (arith, fifteen k b hk)

-- The words from no input on are the middles.
from_last : (k n left : ℕ) → words_from k n (suc left) ≡ words_from k n left ++ words_of k (n + suc left)
unfolding words_from
from_last k n zero = refl
from_last k n (suc left) =
    let e : n + 1 + suc left ≡ n + suc (suc left) = omega arith in
    rw (from_last k (n + 1) left, e, append_assoc)

pub from_none : (k b : ℕ) → words_from k 0 b ≡ shortlex k b
unfolding words_from shortlex
from_none k zero = refl
from_none k (suc b) = from_last k 0 b ∙ rw (from_none k b, zero-add)

-- The word at place x among those of n and up to `left` inputs more is of n inputs, or stands among the longer ones.
module _ (k n x words : ℕ) (is : words ≡ length (words_of k n)) where
  pub at_length : (left : ℕ) → x < words → get_or (words_from k n left) x [] ≡ get_or (words_of k n) x []
  unfolding words_from
  at_length zero h = refl
  at_length (suc left) h =
      let here : x < length (words_of k n) = omega arith in get_or-append (words_of k n) (words_from k (n + 1) left) [] x here

  pub past_length : (left : ℕ) → words ≤ x → x < length (words_from k n left)
      → (0 < left) × (x - words < length (words_from k (n + 1) (left - 1))) × (get_or (words_from k n left) x [] ≡ get_or (words_from k (n + 1) (left - 1)) (x - words) [])
  unfolding words_from
  past_length zero h less = absurd (omega arith)
  past_length (suc left) h less =
      let e : x ≡ length (words_of k n) + (x - words) = omega arith in
      let both : length (words_of k n ++ words_from k (n + 1) left) ≡ length (words_of k n) + length (words_from k (n + 1) left) = length-append (words_of k n) (words_from k (n + 1) left) in
      let one_less : suc left - 1 ≡ left = omega arith in
      rw one_less (
        omega arith,
        omega arith,
        ap (λ (y : ℕ). get_or (words_of k n ++ words_from k (n + 1) left) y []) e ∙ get_or-append-add (words_of k n) (words_from k (n + 1) left) (x - words) [],
      )
