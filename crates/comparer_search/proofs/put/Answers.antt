use Rattle.comparer_search.proofs.Trying.{put_met, put_new}
use Rattle.comparer_search.proofs.put.Goals as goal

pub returns-then-is_met : goal.returns-then-is_met
returns-then-is_met c = put_met _ _ _ _ _ _ c.is_met.ensures c.if-is_met.true

pub returns : goal.returns
returns c = put_new _ _ _ _ _ _ c.is_met.ensures c.if-is_met.false _ _ c.meet.ensures c.entry.ensures
