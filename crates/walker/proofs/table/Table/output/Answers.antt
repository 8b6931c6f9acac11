use Rattle.std.proofs.Common.{◌∙◌}
use Rattle.walker.proofs.Tables.{output_found}
use Rattle.walker.proofs.table.Table.output.Goals as goal

pub returns : goal.returns
returns g c = c.output_at.ensures ∙ output_found _ _ _ _ _ _ _ c.args.self.now.stands c.requires.0 c.requires.1 c.entry.ensures.0
