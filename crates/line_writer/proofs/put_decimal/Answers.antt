use Rattle.line_writer.proofs.Digits.{digits_few}
use native.Mathlib.Omega.{arith}
use Rattle.line_writer.proofs.put_decimal.Goals as goal

pub put_digits-requires : goal.put_digits-requires
put_digits-requires c = omega (arith, c.requires, digits_few c.args.number (omega arith))

pub returns-clause-puts : goal.returns-clause-puts
returns-clause-puts c = c.put_digits.ensures

pub returns-clause-upper_bound : goal.returns-clause-upper_bound
returns-clause-upper_bound c = omega (arith, c.put_digits.ensures.after, digits_few c.args.number (omega arith))
