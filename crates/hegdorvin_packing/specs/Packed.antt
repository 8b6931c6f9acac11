-- docs/INTERFACE.md: an answer as one number. Bits 0 to 4 hold its number, 5 to 7 the file that it concerns, 8 to 31 its first value
-- and 32 to 55 its second. MISSING alone has the cover place in bits 8 to 23, the separator place in 24 to 39, the length of the
-- middle in 40 to 42 and its inputs in 43 to 62, four bits each, the first lowest.
use Rattle.std.specs.Prelude.{ℕ, ◌+◌, ◌*◌, cond, eqb}
use Rattle.rules.specs.Answers.{Said}
use Rattle.theory.specs.Answers.{value}

abbrev pub packed_plain : Said → ℕ
packed_plain s = s.number + 32 * s.file + 256 * value s 0 + 4294967296 * value s 1

-- the inputs of a middle
abbrev pub packed_inputs : Said → ℕ
packed_inputs s = value s 2 + 16 * value s 3 + 256 * value s 4 + 4096 * value s 5 + 65536 * value s 6

abbrev pub packed_missing : Said → ℕ
packed_missing s =
    s.number + 32 * s.file + 256 * value s 0 + 16777216 * value s 7 + 1099511627776 * value s 1 + 8796093022208 * packed_inputs s

unfoldable pub packed : Said → ℕ
packed s = cond (eqb s.number 11) (packed_missing s) (packed_plain s)
