use Rattle.reader.proofs.Bounds.{bound_byte}
use Rattle.reader.proofs.bound.bound_of.Goals as goal

pub returns-else-byte-eq0 : goal.returns-else-byte-eq0
returns-else-byte-eq0 c = bound_byte _ _ c.if-byte-eq0.false
