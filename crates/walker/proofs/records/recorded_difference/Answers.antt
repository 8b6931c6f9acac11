use Rattle.std.proofs.Common.{◌≤◌, ◌<◌, length, get_or, not, ap, arith}
use Rattle.reader.specs.Places.{word_at, after_word, outputs_at}
use Rattle.walker.specs.Machines.{machine_in}
use Rattle.walker.proofs.Tables.{recorded_long}
use Rattle.walker.proofs.Steps.{differ_start, recorded_more, recorded_end}
use Rattle.walker.proofs.records.recorded_difference.Goals as goal

pub loop-step-init : goal.loop-step-init
loop-step-init c = record {
  inside = rw c.numbered-state.ensures c.args.golden.now.stands.start;
  so_far = rw c.numbered-state.ensures (differ_start _ _);
}

pub loop-step-preserved : goal.loop-step-preserved
loop-step-preserved c =
    let w = word_at c.args.sheet.now c.args.place in
    let o = outputs_at c.args.sheet.now (after_word c.args.sheet.now c.args.place) (get_or c.args.sheet.now c.args.place 0) in
    let long = recorded_long c.args.sheet.now c.args.place (after_word c.args.sheet.now c.args.place) _ c.word_length-step-end.ensures.1 c.word_length-step-end.ensures.0 in
    let less : c.loop-step.step < length w = omega (arith, c.loop-step-test.true, c.word_length-step-end.ensures.0) in
    record {
      inside = c.next-state.ensures.1;
      so_far = recorded_more (machine_in c.args.golden.now) w o c.loop-step.step c.loop-step.state.0 _ long c.loop-step.invariant.so_far _ _ less c.input_at-input.ensures.0 c.record_agrees.ensures _ (ap not c.if-not-record_agrees.false) c.next-state.ensures.0;
    }

pub returns : goal.returns
returns c =
    let w = word_at c.args.sheet.now c.args.place in
    let o = outputs_at c.args.sheet.now (after_word c.args.sheet.now c.args.place) (get_or c.args.sheet.now c.args.place 0) in
    let long = recorded_long c.args.sheet.now c.args.place (after_word c.args.sheet.now c.args.place) _ c.word_length-step-end.ensures.1 c.word_length-step-end.ensures.0 in
    let ended : length w ≤ c.loop-step.step = omega (arith, c.loop-step-test.false, c.word_length-step-end.ensures.0) in
    recorded_end (machine_in c.args.golden.now) w o c.loop-step.step c.loop-step.state.0 _ long c.loop-step.invariant.so_far ended
