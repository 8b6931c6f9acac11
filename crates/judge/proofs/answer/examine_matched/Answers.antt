use native.Mathlib.Omega.{arith}
use Rattle.judge.proofs.Examining.{served, examined_agrees, deviating_whole, examined_deviates}
use Rattle.judge.proofs.answer.examine_matched.Goals as goal

pub find_deviating-requires-clause-table_at : goal.find_deviating-requires-clause-table_at
find_deviating-requires-clause-table_at c = (c.requires.handed.stands.table, c.requires.handed.stands.tests)

pub find_deviating-requires-clause-served : goal.find_deviating-requires-clause-served
find_deviating-requires-clause-served c = served c.requires

pub overflow_add-result : goal.overflow_add-result
overflow_add-result c = omega (arith, deviating_whole c.requires _ c.find_deviating.ensures _ _ _ c.in-Some.is)

pub word_length-requires : goal.word_length-requires
word_length-requires c = deviating_whole c.requires _ c.find_deviating.ensures _ _ _ c.in-Some.is

pub returns-in-None : goal.returns-in-None
returns-in-None c = examined_agrees c.requires _ c.find_deviating.ensures c.in-None.is

pub returns-in-Some : goal.returns-in-Some
returns-in-Some c = examined_deviates c.requires _ c.find_deviating.ensures _ _ _ c.in-Some.is _ c.word_length.ensures.0
