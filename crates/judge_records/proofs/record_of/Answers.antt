use Rattle.judge_records.proofs.record_of.Goals as goal

pub returns : goal.returns
returns c = λ t m h noted. rw c.word_inputs.ensures at (c.get.ensures t m h noted)
