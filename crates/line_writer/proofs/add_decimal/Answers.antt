use Rattle.line_writer.proofs.Writing.{puts_then}
use native.Mathlib.Omega.{arith}
use Rattle.line_writer.proofs.add_decimal.Goals as goal

pub returns-clause-puts : goal.returns-clause-puts
returns-clause-puts c = puts_then c.put_byte-next.ensures c.put_decimal.ensures.puts

pub returns-clause-upper_bound : goal.returns-clause-upper_bound
returns-clause-upper_bound c = omega (arith, c.put_byte-next.ensures.after, c.put_decimal.ensures.upper_bound)
