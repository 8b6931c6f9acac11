use Rattle.line_writer.proofs.Lines.{feed_closes, next_closes}
use Rattle.line.proofs.ran.put_outputs.Goals as goal

pub returns : goal.returns
returns c = rw (← c.number.ensures, ← c.number-2.ensures) (next_closes c.add_decimal-answered.ensures.puts (next_closes c.add_decimal-compared.ensures.puts (feed_closes c.put_line_feed.ensures)))
