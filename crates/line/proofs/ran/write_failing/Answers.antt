use Rattle.std.proofs.Common.{sym}
use Rattle.line.proofs.Failing.{failing_number, failing_step, failing_spelled, failing_says}
use Rattle.line.proofs.ran.write_failing.Goals as goal

pub word_place-word-requires-clause-number_lt_count : goal.word_place-word-requires-clause-number_lt_count
word_place-word-requires-clause-number_lt_count c = failing_number c.requires.failing_at

pub output_at-expected-requires-clause-word_at : goal.output_at-expected-requires-clause-word_at
output_at-expected-requires-clause-word_at c = rw c.standing-machine.ensures.2 c.word_place-word.ensures.0

pub output_at-expected-requires-clause-step_in_bounds : goal.output_at-expected-requires-clause-step_in_bounds
output_at-expected-requires-clause-step_in_bounds c = failing_step c.requires.failing_at _ c.word_place-word.ensures.1

pub output_at-given-requires-clause-word_at : goal.output_at-given-requires-clause-word_at
output_at-given-requires-clause-word_at c = rw (c.standing-tried.ensures.2, sym c.requires.failing_at.same_inputs) c.word_place-word.ensures.0

pub output_at-given-requires-clause-step_in_bounds : goal.output_at-given-requires-clause-step_in_bounds
output_at-given-requires-clause-step_in_bounds c = failing_step c.requires.failing_at _ c.word_place-word.ensures.1

pub write_fails-requires-clause-word_len_bound : goal.write_fails-requires-clause-word_len_bound
write_fails-requires-clause-word_len_bound c = failing_spelled c.requires.failing_at _ c.word_place-word.ensures.1 _ c.word_inputs.ensures

pub returns : goal.returns
returns c =
    let g = c.standing-machine.ensures in
    let u = c.standing-tried.ensures in
    rw (← (failing_says c.requires.failing_at _ c.word_place-word.ensures.1 _ c.word_inputs.ensures _ _ (rw (g.0, g.1, g.2, g.3) at c.output_at-expected.ensures) (rw (u.0, u.1, u.2, u.3) at c.output_at-given.ensures))) c.write_fails.ensures
