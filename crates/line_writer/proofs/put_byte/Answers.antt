use Rattle.line_writer.proofs.Writing.{puts_byte}
use Rattle.line_writer.proofs.put_byte.Goals as goal

pub returns : goal.returns
returns c = puts_byte _ _ _ c.requires
