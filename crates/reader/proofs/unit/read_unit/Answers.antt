use Rattle.std.proofs.Common.{rules}
use Rattle.reader.proofs.Joined.{file_is, unit_long, unit_short}
use Rattle.reader.proofs.unit.read_unit.Goals as goal

pub returns : goal.returns
returns c =
    file_is _ _ _ _ _ _ c.read_file.ensures.long (λ h. let x = c.read_file.ensures.short h in (x.0, search rules, x.2)) (unit_long c.args.bytes.now) (unit_short c.args.bytes.now)
