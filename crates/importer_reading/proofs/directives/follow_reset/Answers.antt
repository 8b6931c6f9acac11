use mathlib.Core.Path.{sym}
use Rattle.importer_reading.proofs.Following.{reset_bad, not_full, reset_goes, named_below}
use Rattle.importer_reading.proofs.TwoNames.{some_slots}
use Rattle.importer_reading.proofs.directives.follow_reset.Goals as goal

pub number_name-requires-clause-field_in : goal.number_name-requires-clause-field_in
number_name-requires-clause-field_in c = c.requires.field_in

pub number_name-requires-clause-slots_in : goal.number_name-requires-clause-slots_in
number_name-requires-clause-slots_in c = some_slots c.requires.some_names

pub give_rank-requires : goal.give_rank-requires
give_rank-requires c = (c.requires.ranks_len.0, named_below _ _ _ _ _ _ _ (c.number_name.ensures _ c.requires.some_names.at c.requires.some_names.many) c.in-Some-number_name.is, c.requires.ranks_len.1)

pub returns-in_default : goal.returns-in_default
returns-in_default c = λ before nexts outputs held. reset_bad before _ _ _ nexts outputs _ held _ _ (c.count_reset.ensures before _ held.counted) c.in_default.is _ _ _

pub returns-in_default-number_name : goal.returns-in_default-number_name
returns-in_default-number_name c = λ before nexts outputs held. absurd (not_full before _ _ _ nexts outputs _ held _ _ (c.count_reset.ensures before _ held.counted) _ c.in-Some.is _ _ _ (c.number_name.ensures _ held.named (sym held.many)) c.in_default-number_name.is)

pub returns : goal.returns
returns c = λ before nexts outputs held. reset_goes before _ _ _ nexts outputs _ held _ _ (c.count_reset.ensures before _ held.counted) _ c.in-Some.is _ _ _ (c.number_name.ensures _ held.named (sym held.many)) _ _ c.in-Some-number_name.is _ _ c.give_rank.ensures.0
