use Rattle.std.proofs.Common.{◌∙◌, rules}
use Rattle.rules.specs.Reading.{sheet_record}
use Rattle.theory.specs.Sections.{reads_record}
use Rattle.reader_steps.specs.Steps.{stepping}
use Rattle.reader_steps.proofs.Laws.{keeps, repeated_many}
use Rattle.reader_parts.proofs.records.records_at.Goals as goal

pub returns : goal.returns
returns c = let s = c.args.bytes.now in
    let one = sheet_record c.args.inputs in
    c.repeat.ensures (stepping one s) (λ q r small post. search rules) ∙ repeated_many one s (keeps (reads_record c.args.inputs) s) _ _
