use Rattle.line_writer.proofs.Lines.{feed_closes, next_closes}
use Rattle.line_writer.proofs.Writing.{puts_then}
use Rattle.line.proofs.refused.put_spot.Goals as goal

pub returns : goal.returns
returns c = next_closes (rw (← c.initial.ensures) (puts_then c.put_byte-spaced.ensures c.put_byte-lettered.ensures)) (next_closes c.add_decimal-placed.ensures.puts (feed_closes c.put_line_feed.ensures))
