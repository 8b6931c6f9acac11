use Rattle.line_writer.proofs.Lines.{next_closes}
use Rattle.bureau_refusals.proofs.put_two.Goals as goal

pub returns : goal.returns
returns c = next_closes c.add_decimal-numbered.ensures.puts c.put_last.ensures
