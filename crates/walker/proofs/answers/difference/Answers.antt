use Rattle.std.proofs.Common.{◌<◌, length, ap, arith, not, rules}
use Rattle.reader.specs.Places.{word_at}
use Rattle.walker.specs.Machines.{machine_in}
use Rattle.walker.proofs.Steps.{differ_start, differ_found}
use Rattle.walker.proofs.answers.difference.Goals as goal

pub loop-step-init : goal.loop-step-init
loop-step-init g c = record {
  one = search rules;
  other = search rules;
  so_far = differ_start _ _;
}

pub returns-then-not-outputs_agree : goal.returns-then-not-outputs_agree
returns-then-not-outputs_agree g c =
    let w = word_at c.args.words.now c.args.word in
    let less : c.loop-step.step < length w = omega (arith, c.loop-step-test.true, c.word_length-step-end.ensures.0) in
    differ_found (machine_in c.args.one.now) (machine_in c.args.other.now) w c.loop-step.step _ _ _ c.loop-step.invariant.so_far _ _ less c.input_at-input.ensures.0 c.outputs_agree.ensures (ap not c.if-not-outputs_agree.true)
