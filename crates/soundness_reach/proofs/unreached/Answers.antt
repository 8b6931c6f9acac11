use Rattle.std.proofs.Common.{◌∙◌}
use Rattle.reader.specs.Places.{words_at}
use Rattle.walker.specs.Machines.{machine_in}
use Rattle.soundness_reach.specs.Reached.{lacks}
use Rattle.soundness_reach.proofs.Marks.{lowest_next, lit-lacks}
use Rattle.soundness_reach.proofs.unreached.Goals as goal

pub loop-q-preserved : goal.loop-q-preserved
loop-q-preserved c =
    let G = machine_in c.args.golden.now in
    let ws = words_at c.args.golden.now.bytes.now c.args.cover c.args.covers in
    c.loop-q.invariant ∙ lowest_next (lacks G ws) c.args.golden.now.states c.loop-q.q c.loop-q-test.true (lit-lacks G ws c.reached-marks.result c.loop-q.q (c.reached-marks.ensures c.loop-q.q c.loop-q-test.true) c.if-marks-q-eq0.false)
