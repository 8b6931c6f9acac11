use Rattle.bureau_lines.proofs.Told.{fits_told, passes_told, fails_told, refused_told}
use Rattle.rules.specs.Answers.{run_says}
use Rattle.theory.specs.Answers.{run_answer_lem}
use Rattle.theory.specs.Bounds.{run_fits}
use Rattle.bureau_lines.proofs.trial_line.Goals as goal

pub refused_line-requires : goal.refused_line-requires
refused_line-requires c = fits_told c.in-Refused.is run_says (run_fits _ _ c.run.result c.run.ensures)

pub returns-in-Passes : goal.returns-in-Passes
returns-in-Passes c = rw (← (passes_told _ _ _ (run_answer_lem _ _ _ c.run.ensures) _ c.in-Passes.is)) c.number_line.ensures

pub returns-in-Fails : goal.returns-in-Fails
returns-in-Fails c = rw (← (fails_told _ _ _ (run_answer_lem _ _ _ c.run.ensures) _ _ c.in-Fails.is)) c.run_line.ensures

pub returns-in-Refused : goal.returns-in-Refused
returns-in-Refused c = rw (← (refused_told _ _ _ (run_answer_lem _ _ _ c.run.ensures) _ c.in-Refused.is)) c.refused_line.ensures
