use Rattle.line.proofs.Given.{line_given}
use Rattle.bureau_sheets.proofs.deviates_line.Goals as goal

pub returns : goal.returns
returns c = line_given _ _ _ _ c.no_text-bytes.ensures c.write_deviates-length.ensures
