use Rattle.importer_reading.proofs.Following.{number_goes}
use Rattle.importer_reading.proofs.directives.follow_number.Goals as goal

pub returns : goal.returns
returns c = λ before names lengths nexts outputs ranks held. number_goes before _ names lengths nexts outputs ranks held _ _ _ (c.count_number.ensures before held.counted) _ c.in-Some.is
