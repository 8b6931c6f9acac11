-- Laws of a number's decimal digits.
use Prim.Native.Nat.{ℕ, zero, suc, ◌+◌, ◌/◌, ◌%◌, ◌^◌, ◌≤◌, ◌<◌}
use native.Mathlib.Omega.{arith}
use native.Mathlib.Decide.{dec_lt}
use mathlib.Core.Path.{◌≡◌, ap}
use mathlib.Core.List.{List, [], ◌∷◌, ◌++◌}
use borrow.Author.Tests.{lt-ltb, le-ltb}
use lib.ListN.{length, length-append}
use Rattle.rules.specs.Line.{digit, decimal_of, decimal}
use Rattle.line_writer.specs.Puts.{most_digits}

-- allowing more digits than there are adds none
digits_enough : (f g x : ℕ) → x < f → x < g → decimal_of f x ≡ decimal_of g x
digits_enough zero g x a b = absurd (omega arith)
digits_enough (suc f) zero x a b = absurd (omega arith)
digits_enough (suc f) (suc g) x a b =
    elim (dec_lt x 10) [
      | no over ↦
          let more : 10 ≤ x = omega arith in
          rw (le-ltb x 10 more)
          (ap (λ (l : List ℕ). l ++ (digit (x % 10) ∷ [])) (digits_enough f g (x / 10) (omega arith) (omega arith)))
      | yes less ↦ rw (lt-ltb x 10 less)
    ]

pub one_digit : (x : ℕ) → x < 10 → decimal x ≡ digit x ∷ []
unfolding decimal
one_digit x less = rw (lt-ltb x 10 less)

-- the digits before the last are those of a tenth
pub more_digits : (x : ℕ) → 10 ≤ x → decimal x ≡ decimal (x / 10) ++ (digit (x % 10) ∷ [])
unfolding decimal
more_digits x more =
    rw (le-ltb x 10 more)
    (ap (λ (l : List ℕ). l ++ (digit (x % 10) ∷ [])) (digits_enough x (suc (x / 10)) (x / 10) (omega arith) (omega arith)))

-- the room that a number needs is a byte more than a tenth needs
pub digits_room : (x : ℕ) → 10 ≤ x → length (decimal x) ≡ length (decimal (x / 10)) + 1
digits_room x more = rw (more_digits x more, length-append)

few_digits : (d x : ℕ) → x < 10 ^ suc d → length (decimal x) ≤ suc d
few_digits zero x less = rw (one_digit x (omega arith)) (omega arith)
few_digits (suc d) x less =
    elim (dec_lt x 10) [
      | no over ↦ let more : 10 ≤ x = omega arith in omega (arith, digits_room x more, few_digits d (x / 10) (omega arith))
      | yes few ↦ rw (one_digit x few) (omega arith)
    ]

pub digits_few : (x : ℕ) → x < 18446744073709551616 → length (decimal x) ≤ most_digits
digits_few x less = few_digits 19 x (omega arith)
