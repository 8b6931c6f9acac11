use Rattle.std.proofs.Common.{◌∙◌}
use Rattle.bureau_lines.proofs.Told.{fits_told, says_told, value_told}
use Rattle.bureau_lines.specs.Lines.{built_line, built_length}
use Rattle.rules.specs.Answers.{build_says}
use Rattle.theory.specs.Answers.{build_answer_lem}
use Rattle.theory.specs.Bounds.{build_fits}
use Rattle.bureau_lines.proofs.build_line.Goals as goal

pub unwritten_line-requires : goal.unwritten_line-requires
unwritten_line-requires c = fits_told c.in-Refused.is build_says (build_fits _ _ c.build.result _ c.build.ensures)

pub returns-in-Written : goal.returns-in-Written
returns-in-Written c = let (answer, output) = build_answer_lem _ _ _ _ c.build.ensures in record { says = says_told c.in-Written.is built_line answer c.written_line.ensures.says; length = c.written_line.ensures.long ∙ value_told c.in-Written.is built_length answer; output = output }

pub returns-in-Refused : goal.returns-in-Refused
returns-in-Refused c = let (answer, output) = build_answer_lem _ _ _ _ c.build.ensures in record { says = says_told c.in-Refused.is built_line answer c.unwritten_line.ensures.says; length = c.unwritten_line.ensures.none ∙ value_told c.in-Refused.is built_length answer; output = output }
