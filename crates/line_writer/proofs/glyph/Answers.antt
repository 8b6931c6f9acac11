use Rattle.std.proofs.Common.{arith}
use borrow.Author.Tests.{le-ltb}
use Rattle.line_writer.proofs.glyph.Goals as goal

pub returns-else-number-lt10 : goal.returns-else-number-lt10
returns-else-number-lt10 c = rw (le-ltb c.args.number 10 (omega (arith, c.if-number-lt10.false))) (omega arith)
