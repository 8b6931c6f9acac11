use Rattle.std.proofs.Common.{◌∙◌, rules}
use Rattle.rules.specs.Reading.{output}
use Rattle.reader_steps.specs.Steps.{stepping}
use Rattle.reader_steps.proofs.Laws.{kept_output, repeated_many}
use Rattle.reader_steps.proofs.steps.outputs_at.Goals as goal

pub returns : goal.returns
returns c = let s = c.args.bytes.now in rw (← c.wide.ensures.0) (c.repeat.ensures (stepping output s) (λ q r small post. search rules) ∙ repeated_many output s (kept_output s) _ _)
