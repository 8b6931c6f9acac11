use mathlib.Core.List.{[]}
use Rattle.importer_reading.proofs.TwoNames.{some_slots, first_names, first_many, first_slots, both_named}
use Rattle.importer_reading.proofs.naming.number_both.Goals as goal

pub number_name-requires-clause-field_in : goal.number_name-requires-clause-field_in
number_name-requires-clause-field_in c = (c.requires.field_in.0, c.requires.field_in.1)

pub number_name-requires-clause-slots_in : goal.number_name-requires-clause-slots_in
number_name-requires-clause-slots_in c = some_slots c.requires.some_names

pub number_name-requires-2-clause-field_in : goal.number_name-requires-2-clause-field_in
number_name-requires-2-clause-field_in c = (c.requires.field_in.2, c.requires.field_in.3)

pub number_name-requires-2-clause-slots_in : goal.number_name-requires-2-clause-slots_in
number_name-requires-2-clause-slots_in c = first_slots _ _ [] _ _ _ (c.number_name.ensures _ c.requires.some_names.at c.requires.some_names.many) _ _ c.in_ok-one.was

pub returns : goal.returns
returns c = λ l at is. let named = c.number_name.ensures l at is in both_named l _ _ _ _ _ named _ _ c.in_ok-one.was _ _ _ (c.number_name-2.ensures _ (first_names l _ [] _ _ _ named _ _ c.in_ok-one.was) (first_many l _ [] _ _ _ named _ _ c.in_ok-one.was)) _ _ c.in_ok-other.was
