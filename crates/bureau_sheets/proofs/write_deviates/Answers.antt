use Rattle.line_writer.proofs.Lines.{first_closes, next_closes}
use Rattle.bureau_sheets.proofs.write_deviates.Goals as goal

pub returns : goal.returns
returns c = rw (← c.number.ensures, ← c.number-2.ensures) (first_closes c.put_text-said.ensures (next_closes c.add_decimal-placed.ensures.puts (next_closes c.add_decimal-stepped.ensures.puts (next_closes c.add_word-spelt.ensures.puts c.put_two.ensures))))
