use Rattle.bureau_lines.proofs.Told.{fits_told, says_told}
use Rattle.bureau_lines.specs.Lines.{costed_line}
use Rattle.rules.specs.Answers.{cost_says}
use Rattle.theory.specs.Answers.{cost_answer_lem}
use Rattle.theory.specs.Bounds.{cost_fits}
use Rattle.bureau_lines.proofs.cost_line.Goals as goal

pub refused_line-requires : goal.refused_line-requires
refused_line-requires c = fits_told c.in-Refused.is cost_says (cost_fits _ c.cost.result c.cost.ensures)

pub returns-in-Cost : goal.returns-in-Cost
returns-in-Cost c = says_told c.in-Cost.is costed_line (cost_answer_lem _ _ c.cost.ensures) c.numbers_line.ensures

pub returns-in-Refused : goal.returns-in-Refused
returns-in-Refused c = says_told c.in-Refused.is costed_line (cost_answer_lem _ _ c.cost.ensures) c.refused_line.ensures
