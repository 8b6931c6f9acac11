use Rattle.line_writer.proofs.Lines.{next_closes, first_closes}
use Rattle.line.proofs.ran.write_fails.Goals as goal

pub returns : goal.returns
returns c = first_closes c.put_text-said.ensures (next_closes c.add_decimal-placed.ensures.puts (next_closes c.add_decimal-stepped.ensures.puts (next_closes c.add_hex-spelled.ensures.puts c.put_outputs.ensures)))
