use Rattle.importer_counts.proofs.OneMore.{end_goes}
use Rattle.importer_counts.proofs.count_end.Goals as goal

pub returns : goal.returns
returns c = λ before at. end_goes before _ at c.if-x.false
