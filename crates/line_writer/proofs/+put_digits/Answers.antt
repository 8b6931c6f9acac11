use Rattle.line_writer.proofs.Digits.{one_digit, more_digits, digits_room}
use Rattle.line_writer.proofs.Writing.{puts_then}
use native.Mathlib.Omega.{arith}
use Rattle.line_writer.proofs.+put_digits.Goals as goal

-- `put_digits`. The digits of a tenth of the number, then the last. The measure is the number.
pub overflow_cast-number : goal.overflow_cast-number
overflow_cast-number t c = omega (arith, c.if-number-lt10.true)

pub glyph-requires : goal.glyph-requires
glyph-requires t c = omega (arith, c.if-number-lt10.true)

pub put_byte-requires : goal.put_byte-requires
put_byte-requires t c = let one = one_digit c.args.number (omega (arith, c.if-number-lt10.true)) in omega (arith, rw one at c.requires)

pub returns-then-number-lt10 : goal.returns-then-number-lt10
returns-then-number-lt10 t c = rw (one_digit c.args.number (omega (arith, c.if-number-lt10.true)), ← c.glyph.ensures) c.put_byte.ensures

pub put_digits-next-requires : goal.put_digits-next-requires
put_digits-next-requires t c = let more = digits_room c.args.number (omega (arith, c.if-number-lt10.false)) in (omega (arith, c.decreases, c.if-number-lt10.false), omega (arith, c.requires, more))

pub overflow_cast-low : goal.overflow_cast-low
overflow_cast-low t c = omega arith

pub glyph-requires-2 : goal.glyph-requires-2
glyph-requires-2 t c = omega arith

pub put_byte-requires-2 : goal.put_byte-requires-2
put_byte-requires-2 t c = let more = digits_room c.args.number (omega (arith, c.if-number-lt10.false)) in omega (arith, c.requires, more, c.put_digits-next.ensures.after)

pub returns : goal.returns
returns t c = rw (more_digits c.args.number (omega (arith, c.if-number-lt10.false)), ← c.glyph-2.ensures) (puts_then c.put_digits-next.ensures c.put_byte-2.ensures)
