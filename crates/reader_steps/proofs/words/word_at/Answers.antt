use Rattle.rules.specs.Reading.{word}
use Rattle.reader_steps.proofs.Sections.{the_length}
use Rattle.reader_steps.proofs.Laws.{cut}
use Rattle.reader_steps.proofs.words.word_at.Goals as goal

pub returns-in_err-length : goal.returns-in_err-length
unfolding word
returns-in_err-length c = cut _ _ _ _ _ _ c.from_residual.ensures.1 c.in_err-length.ensures

pub returns : goal.returns
unfolding word
returns c = rw (the_length _ _ _ _ _ c.in_ok-length.ensures) c.inputs_at.ensures
