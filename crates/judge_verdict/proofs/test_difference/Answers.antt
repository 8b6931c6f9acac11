use Rattle.walker.specs.Machines.{machine_in}
use Rattle.judge_records.proofs.Looking.{filed_node}
use Rattle.judge_verdict.proofs.Deviating.{answered_stands, answered_compared}
use Rattle.judge_verdict.proofs.test_difference.Goals as goal

pub record_of-place-requires-clause-whole : goal.record_of-place-requires-clause-whole
record_of-place-requires-clause-whole c = c.requires.whole

pub record_of-place-requires-clause-node : goal.record_of-place-requires-clause-node
record_of-place-requires-clause-node c = filed_node c.requires.answered.filed

pub record_of-place-requires-clause-value_len : goal.record_of-place-requires-clause-value_len
record_of-place-requires-clause-value_len c = c.requires.answered.filed.long

pub recorded_difference-requires-clause-word_at : goal.recorded_difference-requires-clause-word_at
recorded_difference-requires-clause-word_at c = (answered_stands _ _ _ _ _ _ _ c.requires.answered _ c.record_of-place.ensures).0

pub recorded_difference-requires-clause-place_in_bounds : goal.recorded_difference-requires-clause-place_in_bounds
recorded_difference-requires-clause-place_in_bounds c = (answered_stands _ _ _ _ _ _ _ c.requires.answered _ c.record_of-place.ensures).1

pub returns : goal.returns
returns c = λ rs filed once. answered_compared _ _ _ _ _ _ _ c.requires.answered _ c.record_of-place.ensures (machine_in c.args.golden.now) _ c.recorded_difference.ensures rs filed once
