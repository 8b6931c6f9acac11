use Rattle.finder.proofs.Finding.{fault_none, fault_refuses}
use Rattle.finder.proofs.answer.find_bounded.Goals as goal

pub find_words-requires : goal.find_words-requires
find_words-requires c = fault_none c.requires c.reach_states.ensures.0 c.find_distances.ensures _ _ _ c.unreached-state.ensures c.lowest_untold-pair.ensures c.first_fault.ensures c.in-Ok.is

pub returns-in-Err : goal.returns-in-Err
returns-in-Err c = fault_refuses c.requires c.reach_states.ensures.0 c.find_distances.ensures _ _ _ c.unreached-state.ensures c.lowest_untold-pair.ensures c.first_fault.ensures _ c.in-Err.is _
