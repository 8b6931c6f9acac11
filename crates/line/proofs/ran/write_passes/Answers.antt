use Rattle.line_writer.proofs.Lines.{feed_closes, next_closes, first_closes}
use Rattle.line.proofs.ran.write_passes.Goals as goal

pub returns : goal.returns
returns c = first_closes c.put_text-said.ensures (next_closes c.add_decimal-counted.ensures.puts (feed_closes c.put_line_feed.ensures))
