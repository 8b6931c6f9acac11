use Rattle.std.proofs.Common.{◌<◌, length, arith}
use Rattle.reader.specs.Places.{word_at}
use Rattle.walker.specs.Machines.{machine_in}
use Rattle.walker.proofs.Steps.{after_more}
use Rattle.walker.proofs.answers.state_after.Goals as goal

pub loop-step-preserved : goal.loop-step-preserved
loop-step-preserved g c =
    let w = word_at c.args.words.now c.args.word in
    let less : c.loop-step.step < length w = omega (arith, c.loop-step-test.true, c.word_length-step-end.ensures.0) in
    record {
      inside = c.next-state.ensures.1;
      leads = after_more (machine_in c.args.table.now) _ w c.loop-step.step _ c.loop-step.invariant.leads _ _ less c.input_at.ensures.0 c.next-state.ensures.0;
    }
