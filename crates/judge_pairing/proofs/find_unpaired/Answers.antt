use mathlib.Core.Path.{◌∙◌}
use Rattle.judge_records.proofs.Looking.{filed_node}
use Rattle.judge_pairing.proofs.Pairs.{filed_knowing, first_refused}
use Rattle.judge_pairing.proofs.find_unpaired.Goals as goal

pub mark_tests-requires-clause-words_at : goal.mark_tests-requires-clause-words_at
mark_tests-requires-clause-words_at c = c.requires.words_at.0

pub mark_tests-requires-clause-node : goal.mark_tests-requires-clause-node
mark_tests-requires-clause-node c = filed_node c.requires.filed

pub mark_tests-requires-clause-marks_len : goal.mark_tests-requires-clause-marks_len
mark_tests-requires-clause-marks_len c = c.requires.marks_len

pub find_foreign-foreign-requires-clause-records_at : goal.find_foreign-foreign-requires-clause-records_at
find_foreign-foreign-requires-clause-records_at c = c.requires.words_at.1.records

pub find_foreign-foreign-requires-clause-node : goal.find_foreign-foreign-requires-clause-node
find_foreign-foreign-requires-clause-node c = filed_node c.requires.filed

pub find_foreign-foreign-requires-clause-marks_len : goal.find_foreign-foreign-requires-clause-marks_len
find_foreign-foreign-requires-clause-marks_len c = c.mark_tests.auto.marks ∙ c.requires.marks_len

pub find_absent-absent-requires-clause-words_at : goal.find_absent-absent-requires-clause-words_at
find_absent-absent-requires-clause-words_at c = c.requires.words_at.0

pub find_absent-absent-requires-clause-node : goal.find_absent-absent-requires-clause-node
find_absent-absent-requires-clause-node c = filed_node c.requires.filed

pub find_absent-absent-requires-clause-value_len : goal.find_absent-absent-requires-clause-value_len
find_absent-absent-requires-clause-value_len c = c.requires.filed.long

pub returns : goal.returns
returns c = first_refused _ _ _ _ (c.find_foreign-foreign.ensures _ (filed_knowing _ _ c.requires.filed c.mark_tests.ensures)) (c.find_absent-absent.ensures _ _ _ c.requires.filed) _ c.first_refusal.ensures
