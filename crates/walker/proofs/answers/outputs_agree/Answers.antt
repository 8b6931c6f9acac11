use Rattle.walker.proofs.answers.outputs_agree.Goals as goal

pub output-requires : goal.output-requires
output-requires g c = (c.requires.p_lt_states.0, c.requires.input_lt_inputs.0)

pub output-requires-2 : goal.output-requires-2
output-requires-2 g c = (c.requires.p_lt_states.1, c.requires.input_lt_inputs.1)
