-- docs/LINES.md: a bound as it is given to the program, in decimal, 0 to 255.
use Rattle.std.specs.Prelude.{ℕ, ◌+◌, ◌*◌, ◌-◌, List, [], ◌∷◌, Bool, ◌&&◌, cond, leb}
use Rattle.std.specs.Prelude.{Option, None, Some}

-- the digits are the bytes 48 to 57
abbrev pub is_digit : ℕ → Bool
is_digit b = leb 48 b && leb b 57

-- the number that n becomes with the digit b behind it
abbrev pub with_digit : ℕ → ℕ → ℕ
with_digit n b = 10 * n + (b - 48)

-- the bound that n becomes with these bytes behind it
abbrev pub bound_from : ℕ → List ℕ → Option ℕ
bound_from n [] = Some n
bound_from n (b ∷ l) = cond (is_digit b && leb (with_digit n b) 255) (bound_from (with_digit n b) l) None

-- a bound has a digit
abbrev pub bound_given : List ℕ → Option ℕ
bound_given [] = None
bound_given (b ∷ l) = bound_from 0 (b ∷ l)
