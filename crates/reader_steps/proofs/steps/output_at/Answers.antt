use Rattle.rules.specs.Reading.{output}
use Rattle.reader_steps.proofs.Laws.{ended, passed_on}
use Rattle.reader_steps.proofs.steps.output_at.Goals as goal

pub returns-in_err-next : goal.returns-in_err-next
unfolding output
returns-in_err-next c = passed_on _ _ _ _ _ c.from_residual.ensures.1 c.in_err-next.ensures

pub returns : goal.returns
unfolding output
returns c = ended _ _ _ c.in_ok-next.ensures
