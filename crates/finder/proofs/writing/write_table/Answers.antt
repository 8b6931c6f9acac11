use mathlib.Core.Path.{sym}
use lib.ListN.{length-drop}
use Rattle.finder.proofs.Sections.{wrote_copy}
use Rattle.finder.proofs.writing.write_table.Goals as goal

pub returns : goal.returns
returns c = wrote_copy _ _ _ _ _ (sym (length-drop 4 c.args.unit.now)) c.requires.1 c.copy.ensures
