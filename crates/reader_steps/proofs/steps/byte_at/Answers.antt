use Rattle.std.proofs.Common.{sym, ap}
use Rattle.reader_steps.specs.Steps.{number_read}
use Rattle.reader_steps.proofs.Laws.{byte_none, byte_here}
use Rattle.reader_steps.proofs.steps.byte_at.Goals as goal

pub returns-then-bytes-p : goal.returns-then-bytes-p
returns-then-bytes-p c = sym (ap number_read (byte_none _ _ c.if-bytes-p.true))

pub returns : goal.returns
returns c = sym (ap number_read (byte_here _ _ c.if-bytes-p.false))
