use Rattle.importer_counts.proofs.OneMore.{nothing_counted}
use Rattle.importer_counts.proofs.no_counts.Goals as goal

pub returns : goal.returns
returns c = nothing_counted
