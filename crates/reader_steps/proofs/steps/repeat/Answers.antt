use Rattle.std.proofs.Common.{◌∙◌, sym, arith, rules}
use Rattle.reader_steps.proofs.Laws.{repeated_all, repeated_on, repeated_stopped, repeated_done}
use Rattle.reader_steps.proofs.steps.repeat.Goals as goal

pub loop-init : goal.loop-init
loop-init g c = record { place = search rules; rest = λ next gives. repeated_all next _ _ }

pub returns-in_err-p : goal.returns-in_err-p
returns-in_err-p g c next gives =
    repeated_stopped next _ _ _ _ _ c.loop-test.true c.from_residual.ensures.1 (gives _ _ (omega arith) c.in_err-p.ensures) ∙ sym (c.loop.invariant.rest next gives)

pub loop-preserved : goal.loop-preserved
loop-preserved g c =
    record {
      place = search rules;
      rest = λ next gives. c.loop.invariant.rest next gives ∙ repeated_on next _ _ _ _ c.loop-test.true (gives _ _ (omega arith) c.in_ok-p.ensures);
    }

pub returns : goal.returns
returns g c next gives = repeated_done next _ _ _ c.loop-test.false ∙ sym (c.loop.invariant.rest next gives)
