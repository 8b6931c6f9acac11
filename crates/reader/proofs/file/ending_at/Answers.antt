use Rattle.std.proofs.Common.{sym, ap}
use Rattle.reader.specs.Chains.{placed}
use Rattle.reader.proofs.Joined.{ending_more, ending_here}
use Rattle.reader.proofs.file.ending_at.Goals as goal

pub returns-then-p-bytes : goal.returns-then-p-bytes
returns-then-p-bytes g c = sym (ap placed (ending_more _ _ _ c.if-p-bytes.true))

pub returns : goal.returns
returns g c = sym (ap placed (ending_here _ _ _ c.if-p-bytes.false))
