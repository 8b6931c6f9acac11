use Rattle.std.proofs.Common.{◌∙◌, rules}
use lib.Dec.{ltb}
use Rattle.rules.specs.declared.Fault.TheVariants.{BadWord}
use Rattle.theory.specs.Sections.{reads_judged-byte}
use Rattle.reader_steps.specs.Steps.{stepping, input}
use Rattle.reader_steps.proofs.Laws.{keeps, repeated_many}
use Rattle.reader_steps.proofs.words.inputs_at.Goals as goal

pub returns : goal.returns
returns c = let s = c.args.bytes.now in
    let k = c.args.inputs in
    rw (← c.wide.ensures.0) (c.repeat.ensures (stepping (input k) s) (λ q r small post. search rules) ∙ repeated_many (input k) s (keeps (reads_judged-byte (λ i. ltb i k) BadWord tt) s) _ _)
