use Rattle.std.proofs.Common.{◌∙◌}
use Rattle.bureau_lines.proofs.Told.{fits_told, says_told, value_told}
use Rattle.bureau_lines.specs.Lines.{imported_line, imported_length}
use Rattle.rules.specs.Answers.{import_says}
use Rattle.theory.specs.Answers.{import_answer}
use Rattle.theory.specs.Bounds.{import_fits}
use Rattle.bureau_lines.proofs.import_line.Goals as goal

pub unwritten_line-requires : goal.unwritten_line-requires
unwritten_line-requires c = fits_told c.in-Refused.is import_says (import_fits _ _ c.read_kiss2.result _ c.read_kiss2.ensures)

pub returns-in-Written : goal.returns-in-Written
returns-in-Written c = let (answer, output) = import_answer _ _ _ _ c.read_kiss2.ensures in record { says = says_told c.in-Written.is imported_line answer c.written_line.ensures.says; length = c.written_line.ensures.long ∙ value_told c.in-Written.is imported_length answer; output = output }

pub returns-in-Refused : goal.returns-in-Refused
returns-in-Refused c = let (answer, output) = import_answer _ _ _ _ c.read_kiss2.ensures in record { says = says_told c.in-Refused.is imported_line answer c.unwritten_line.ensures.says; length = c.unwritten_line.ensures.none ∙ value_told c.in-Refused.is imported_length answer; output = output }
