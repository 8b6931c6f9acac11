use Rattle.std.proofs.Common.{◌∙◌}
use Rattle.walker.proofs.Tables.{next_found}
use Rattle.walker.proofs.table.Table.next.Goals as goal

pub returns : goal.returns
returns g c = let e = next_found _ _ _ _ _ _ _ c.args.self.now.stands c.requires.0 c.requires.1 c.entry.ensures.0 in (c.numbered.ensures ∙ e.0, rw c.numbered.ensures e.1)
