-- The number that a field is.
use Rattle.std.specs.Prelude.{ℕ, cond, ◌&&◌, length, Option, None, Some}
use Rattle.rules.specs.Lists.{all}
use Rattle.rules.specs.Sizes.{counts}
use Rattle.rules.specs.Kiss2.{Field, is_digit, value}

-- 1 to 9 digits are a number
abbrev pub number_in : Field → Option ℕ
number_in field = cond (counts 9 (length field) && all is_digit field) (Some (value field)) None
