use Rattle.importer_reading.proofs.Following.{end_goes}
use Rattle.importer_reading.proofs.directives.follow_end.Goals as goal

pub returns : goal.returns
returns c = λ before names lengths nexts outputs ranks held. end_goes before _ names lengths nexts outputs ranks held _ (c.count_end.ensures before held.counted) _ c.in-Some.is
