use native.Mathlib.Omega.{arith}
use Rattle.importer.proofs.Ending.{few_entries, each_ranked, numbers_in, incomplete, no_room, tables, complete}
use Rattle.importer.proofs.write_complete.Goals as goal

pub overflow_mul-size : goal.overflow_mul-size
overflow_mul-size c = omega (arith, few_entries _ _ _ _ _ _ c.requires.ranked)

pub overflow_mul-size-2 : goal.overflow_mul-size-2
overflow_mul-size-2 c = omega (arith, few_entries _ _ _ _ _ _ c.requires.ranked)

pub overflow_add-size : goal.overflow_add-size
overflow_add-size c = omega (arith, few_entries _ _ _ _ _ _ c.requires.ranked)

pub number_states-numbers-requires : goal.number_states-numbers-requires
number_states-numbers-requires c = each_ranked _ _ _ _ _ _ c.requires.ranked

pub find_silent-requires : goal.find_silent-requires
find_silent-requires c = (c.requires.ranked.entered.room.0, numbers_in _ _ _ _ _ _ c.requires.ranked _ c.number_states-numbers.ensures, c.requires.ranked.few_inputs)

pub returns-then-room-size : goal.returns-then-room-size
returns-then-room-size c = λ said ranked. no_room said _ _ _ _ _ ranked _ c.number_states-numbers.ensures _ c.find_silent.ensures c.in_default.is _ _ (omega arith) (omega (arith, c.if-room-size.true))

pub write_unit-requires-clause-tables : goal.write_unit-requires-clause-tables
write_unit-requires-clause-tables c = tables _ _ _ _ _ _ c.requires.ranked _ c.number_states-numbers.ensures _ c.find_silent.ensures c.in_default.is

pub write_unit-requires-clause-inputs_in_bounds : goal.write_unit-requires-clause-inputs_in_bounds
write_unit-requires-clause-inputs_in_bounds c = omega (arith, c.if-room-size.false)

pub returns-in-Some : goal.returns-in-Some
returns-in-Some c = λ said ranked. incomplete said _ _ _ _ _ ranked _ c.number_states-numbers.ensures _ c.find_silent.ensures _ _ c.in-Some.is _

pub returns : goal.returns
returns c = λ said ranked. complete said _ _ _ _ _ ranked _ c.number_states-numbers.ensures _ c.find_silent.ensures c.in_default.is _ _ c.write_unit.ensures _ (omega arith) (omega (arith, c.if-room-size.false))
