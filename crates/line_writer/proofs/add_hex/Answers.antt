use Rattle.line_writer.proofs.Writing.{puts_then, hex-length}
use native.Mathlib.Omega.{arith}
use Rattle.line_writer.proofs.add_hex.Goals as goal

pub put_hex-requires-clause-word_in_bounds : goal.put_hex-requires-clause-word_in_bounds
put_hex-requires-clause-word_in_bounds c = omega (arith, c.put_byte-next.ensures.after, c.requires.word_in_bounds)

pub put_hex-requires-clause-valid : goal.put_hex-requires-clause-valid
put_hex-requires-clause-valid c = c.requires.valid

pub returns-clause-puts : goal.returns-clause-puts
returns-clause-puts c = puts_then c.put_byte-next.ensures c.put_hex.ensures

pub returns-clause-value : goal.returns-clause-value
returns-clause-value c = omega (arith, c.put_byte-next.ensures.after, c.put_hex.ensures.after, hex-length c.args.word.now)
