use Rattle.std.proofs.Common.{rules}
use Rattle.reader.proofs.Joined.{file_is, dossier_long, dossier_short}
use Rattle.reader.proofs.dossier.read_dossier.Goals as goal

pub returns : goal.returns
returns c =
    file_is _ _ _ _ _ _ c.read_file.ensures.long (λ h. let x = c.read_file.ensures.short h in (x.0, search rules, x.2)) (dossier_long c.args.bytes.now) (dossier_short c.args.bytes.now)
