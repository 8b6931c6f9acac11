use Rattle.importer_unit.proofs.Holding.{head_written}
use Rattle.importer_unit.proofs.writing.write_head.Goals as goal

pub returns : goal.returns
returns c = head_written _ _ _ _ c.requires.0 _ c.copy_from_slice.ensures.after
