use Rattle.line_writer.proofs.Lines.{first_closes}
use Rattle.line.proofs.Given.{line_given}
use Rattle.bureau_lines.proofs.plain.number_line.Goals as goal

pub returns : goal.returns
returns c = line_given _ _ _ _ c.no_text-bytes.ensures (first_closes c.put_text-said.ensures c.put_last-length.ensures)
