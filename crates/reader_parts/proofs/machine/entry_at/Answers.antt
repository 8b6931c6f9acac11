use Rattle.std.proofs.Common.{◌∙◌, sym, rules}
use lib.Dec.{ltb}
use Rattle.rules.specs.Reading.{entry}
use Rattle.reader_steps.proofs.Laws.{cut}
use Rattle.reader_parts.proofs.Parts.{the_state, step_map}
use Rattle.reader_parts.proofs.machine.entry_at.Goals as goal

pub returns-in_err-output : goal.returns-in_err-output
unfolding entry
returns-in_err-output c =
    cut _ _ _ _ _ _ c.from_residual.ensures.1 (c.in_err-output.ensures (λ i. ltb i c.args.states) (λ i said small post. search rules))

pub returns : goal.returns
unfolding entry
returns c =
    rw (the_state _ _ _ _ _ (c.in_ok-output.ensures (λ i. ltb i c.args.states) (λ i said small post. search rules)))
    (c.output_at.ensures ∙ sym (step_map _ _))
