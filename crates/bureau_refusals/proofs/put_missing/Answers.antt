use Rattle.line_writer.proofs.Lines.{next_closes}
use Rattle.bureau_refusals.proofs.put_missing.Goals as goal

pub returns : goal.returns
returns c = next_closes c.add_decimal-covered.ensures.puts (next_closes c.add_middle-spelt.ensures.puts c.put_last.ensures)
