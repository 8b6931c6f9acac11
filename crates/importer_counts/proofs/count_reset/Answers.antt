use Rattle.importer_counts.proofs.OneMore.{reset_goes}
use Rattle.importer_counts.proofs.count_reset.Goals as goal

pub returns : goal.returns
returns c = λ before state at. reset_goes before _ at state c.if-x.false c.if-x-ne0.false c.if-x-2.false
