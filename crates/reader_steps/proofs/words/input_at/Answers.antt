use Rattle.std.proofs.Common.{rules}
use lib.Dec.{ltb}
use Rattle.reader_steps.proofs.Laws.{ended, passed_on}
use Rattle.reader_steps.proofs.words.input_at.Goals as goal

pub returns-in_err-next : goal.returns-in_err-next
returns-in_err-next c =
    passed_on _ _ _ _ _ c.from_residual.ensures.1 (c.in_err-next.ensures (λ i. ltb i c.args.inputs) (λ i said small post. search rules))

pub returns : goal.returns
returns c = ended _ _ _ (c.in_ok-next.ensures (λ i. ltb i c.args.inputs) (λ i said small post. search rules))
