use mathlib.Core.Path.{sym, ◌∙◌}
use Rattle.reader.specs.Places.{after_word}
use Rattle.walker.proofs.Tables.{outputs_get}
use Rattle.walker.proofs.records.recorded_output.Goals as goal

pub returns : goal.returns
returns c = c.output_at.ensures ∙ rw c.wide.ensures.0 (sym (outputs_get c.args.sheet.now (after_word c.args.sheet.now c.args.place) _ c.args.step c.requires.step_bound))
