use Rattle.judge.proofs.Examining.{examined_unpaired, matched}
use Rattle.judge.proofs.answer.examine_in.Goals as goal

pub examine_matched-requires : goal.examine_matched-requires
examine_matched-requires c = matched _ _ _ _ c.requires.handed _ c.pair.ensures.value c.pair.ensures.filed c.in-Ok.is

pub returns-in-Err : goal.returns-in-Err
returns-in-Err c = examined_unpaired _ _ _ _ c.requires.handed _ c.pair.ensures.value _ c.in-Err.is
