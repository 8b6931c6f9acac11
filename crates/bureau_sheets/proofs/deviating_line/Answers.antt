use Rattle.bureau_sheets.proofs.Deviating.{deviating_number, deviating_part_lem, deviating_step, deviating_filed, recorded_step, deviating_spelled, deviating_says}
use Rattle.bureau_sheets.proofs.deviating_line.Goals as goal

pub word_place-word-requires-clause-words_at : goal.word_place-word-requires-clause-words_at
word_place-word-requires-clause-words_at c = c.requires.stands.tests

pub word_place-word-requires-clause-number_lt_count : goal.word_place-word-requires-clause-number_lt_count
word_place-word-requires-clause-number_lt_count c = deviating_number c.requires

pub standing-golden-requires : goal.standing-golden-requires
standing-golden-requires c = c.requires.stands.table

pub output_at-expected-requires-clause-word_at : goal.output_at-expected-requires-clause-word_at
output_at-expected-requires-clause-word_at c = rw c.standing-golden.ensures.2 c.word_place-word.ensures.0

pub output_at-expected-requires-clause-step_in_bounds : goal.output_at-expected-requires-clause-step_in_bounds
output_at-expected-requires-clause-step_in_bounds c = deviating_step c.requires _ c.word_place-word.ensures.1

pub record_place-record-requires-clause-whole : goal.record_place-record-requires-clause-whole
record_place-record-requires-clause-whole c = c.word_place-word.ensures.0.inside

pub record_place-record-requires-clause-records_at : goal.record_place-record-requires-clause-records_at
record_place-record-requires-clause-records_at c = c.requires.lent.records

pub record_place-record-requires-clause-count_value : goal.record_place-record-requires-clause-count_value
record_place-record-requires-clause-count_value c = deviating_filed c.requires _ c.word_place-word.ensures.1

pub recorded_output-recorded-requires-clause-place_in_bounds : goal.recorded_output-recorded-requires-clause-place_in_bounds
recorded_output-recorded-requires-clause-place_in_bounds c = c.record_place-record.ensures.inside

pub recorded_output-recorded-requires-clause-step_bound : goal.recorded_output-recorded-requires-clause-step_bound
recorded_output-recorded-requires-clause-step_bound c = recorded_step c.requires _ c.word_place-word.ensures.1 _ c.record_place-record.ensures

pub deviates_line-requires : goal.deviates_line-requires
deviates_line-requires c = deviating_spelled c.requires _ c.word_place-word.ensures.1 _ c.record_place-record.ensures _ (deviating_part_lem c.requires _ c.word_place-word.ensures.1 _ c.failing_word.ensures)

pub returns : goal.returns
returns c =
    let g = c.standing-golden.ensures in
    rw (← (deviating_says c.requires _ c.word_place-word.ensures.1 _ c.record_place-record.ensures _ (deviating_part_lem c.requires _ c.word_place-word.ensures.1 _ c.failing_word.ensures) _ _ (rw (g.0, g.1, g.2, g.3) at c.output_at-expected.ensures) c.recorded_output-recorded.ensures)) c.deviates_line.ensures
