use Rattle.walker_lookup.proofs.same_word.Goals as goal

pub returns : goal.returns
returns c = rw (← c.word_inputs.ensures, ← c.word_inputs-2.ensures) c.eq.ensures
