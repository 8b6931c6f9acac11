use Rattle.std.proofs.Common.{rules}
use Rattle.reader.proofs.Joined.{file_is, sheet_long, sheet_short}
use Rattle.reader.proofs.sheet.read_sheet.Goals as goal

pub returns : goal.returns
returns c =
    file_is _ _ _ _ _ _ c.read_file.ensures.long (λ h. let x = c.read_file.ensures.short h in (x.0, search rules, x.2)) (sheet_long c.args.inputs c.args.bytes.now) (sheet_short c.args.inputs c.args.bytes.now)
