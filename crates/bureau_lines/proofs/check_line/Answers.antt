use Rattle.bureau_lines.proofs.Told.{fits_told, says_told}
use Rattle.bureau_lines.specs.Lines.{checked_line}
use Rattle.rules.specs.Answers.{check_says}
use Rattle.theory.specs.Answers.{check_answer_lem}
use Rattle.theory.specs.Bounds.{check_fits}
use Rattle.bureau_lines.proofs.check_line.Goals as goal

pub refused_line-requires : goal.refused_line-requires
refused_line-requires c = fits_told c.in-Refused.is check_says (check_fits _ c.check.result c.check.ensures)

pub returns-in-Accepted : goal.returns-in-Accepted
returns-in-Accepted c = says_told c.in-Accepted.is checked_line (check_answer_lem _ _ c.check.ensures) c.plain_line.ensures

pub returns-in-Refused : goal.returns-in-Refused
returns-in-Refused c = says_told c.in-Refused.is checked_line (check_answer_lem _ _ c.check.ensures) c.refused_line.ensures
