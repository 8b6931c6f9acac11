use Rattle.std.proofs.Common.{◌∙◌}
use Rattle.bureau_lines.proofs.Told.{fits_told, says_told, value_told}
use Rattle.bureau_lines.specs.Lines.{found_line, found_length}
use Rattle.rules.specs.Answers.{find_says}
use Rattle.theory.specs.Answers.{find_answer_lem}
use Rattle.theory.specs.Bounds.{find_fits}
use Rattle.bureau_lines.proofs.find_line.Goals as goal

pub unwritten_line-requires : goal.unwritten_line-requires
unwritten_line-requires c = fits_told c.in-Refused.is find_says (find_fits _ _ _ c.find.result _ c.find.ensures)

pub returns-in-Written : goal.returns-in-Written
returns-in-Written c = let (answer, output) = find_answer_lem _ _ _ _ _ c.find.ensures in record { says = says_told c.in-Written.is found_line answer c.written_line.ensures.says; length = c.written_line.ensures.long ∙ value_told c.in-Written.is found_length answer; output = output }

pub returns-in-Refused : goal.returns-in-Refused
returns-in-Refused c = let (answer, output) = find_answer_lem _ _ _ _ _ c.find.ensures in record { says = says_told c.in-Refused.is found_line answer c.unwritten_line.ensures.says; length = c.unwritten_line.ensures.none ∙ value_told c.in-Refused.is found_length answer; output = output }
