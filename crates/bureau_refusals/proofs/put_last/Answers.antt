use Rattle.line_writer.proofs.Lines.{next_closes, feed_closes}
use Rattle.bureau_refusals.proofs.put_last.Goals as goal

pub returns : goal.returns
returns c = next_closes c.add_decimal-numbered.ensures.puts (feed_closes c.put_line_feed.ensures)
