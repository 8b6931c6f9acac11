-- docs/LINES.md: each number of 0 to 255, in decimal as a line has it, is given as itself.
use Rattle.std.specs.Prelude.{ℕ, zero, suc, ◌+◌, ◌*◌, ◌/◌, ◌%◌, ◌≤◌, ◌<◌, ◌≡◌, refl, List, [], ◌∷◌, ◌++◌, Bool, true, false, ◌&&◌, cond, leb}
use Rattle.std.proofs.Common.{arith, ◌∙◌, lt-ltb, le-ltb, le-leb}
use Rattle.std.proofs.Math.Decide.{dec_lt}
use Rattle.rules.specs.Line.{digit, decimal_of, decimal}
use Rattle.std.specs.Prelude.{Option, None, Some}
use Rattle.bureau.specs.Bounds.{is_digit, with_digit, bound_from, bound_given}

-- bytes that make a number, and others behind them
from_append : (n : ℕ) (l r : List ℕ) (m : ℕ) → bound_from n l ≡ Some m → bound_from n (l ++ r) ≡ bound_from m r
from_append n [] r m e = let same : n ≡ m = cc in rw same
from_append n (b ∷ l) r m e = go (is_digit b && leb (with_digit n b) 255) (λ h. from_append (with_digit n b) l r m h) e
  where
    go : {x y z : Option ℕ} (t : Bool) → (x ≡ Some m → y ≡ z) → cond t x None ≡ Some m → cond t y None ≡ z
    go true rest e = rest e
    go false rest e = cc

-- a digit behind a number
from_digit : (n x m : ℕ) → x < 10 → 10 * n + x ≡ m → m ≤ 255 → bound_from n ((48 + x) ∷ []) ≡ Some m
from_digit n x m less is small =
    let same : with_digit n (48 + x) ≡ m = omega arith in
    rw (le-leb 48 (48 + x) (omega arith), le-leb (48 + x) 57 (omega arith), same, le-leb m 255 small)

from_digits : (most x : ℕ) → x < most → x ≤ 255 → bound_from 0 (decimal_of most x) ≡ Some x
from_digits zero x enough small = absurd (omega arith)
from_digits (suc most) x enough small =
    elim (dec_lt x 10) [
      | yes less ↦ rw (lt-ltb x 10 less) (from_digit 0 x x less (omega arith) small)
      | no over ↦
          let more : 10 ≤ x = omega arith in
          let last : x % 10 < 10 = omega arith in
          let tens = from_digits most (x / 10) (omega arith) (omega arith) in
          rw (le-ltb x 10 more, lt-ltb (x % 10) 10 last)
          (from_append 0 (decimal_of most (x / 10)) ((48 + x % 10) ∷ []) (x / 10) tens ∙ from_digit (x / 10) (x % 10) x last (omega arith) small)
    ]

-- a number has a digit
given_from : (l : List ℕ) (b : ℕ) → bound_given (l ++ (b ∷ [])) ≡ bound_from 0 (l ++ (b ∷ []))
given_from [] b = refl
given_from (a ∷ l) b = refl

given_digits : (most x : ℕ) → bound_given (decimal_of (suc most) x) ≡ bound_from 0 (decimal_of (suc most) x)
given_digits most x =
    elim (dec_lt x 10) [
      | yes less ↦ rw (lt-ltb x 10 less)
      | no over ↦ let more : 10 ≤ x = omega arith in rw (le-ltb x 10 more) (given_from (decimal_of most (x / 10)) (digit (x % 10)))
    ]

pub decimal_given : (x : ℕ) → x ≤ 255 → bound_given (decimal x) ≡ Some x
unfolding decimal
decimal_given x small = given_digits x x ∙ from_digits (suc x) x (omega arith) small
