use Rattle.std.proofs.Common.{◌≡◌, arith}
use Rattle.reader.specs.Places.{word_at}
use Rattle.walker.specs.Machines.{machine_in}
use Rattle.walker_lookup.proofs.Lookups.{ahead_next, ahead_here}
use Rattle.walker_lookup.proofs.output_at.Goals as goal

pub loop-i-preserved : goal.loop-i-preserved
loop-i-preserved g c = ahead_next (machine_in c.args.table.now) (word_at c.args.words.now c.args.word) c.args.step c.requires.step_in_bounds _ _ _ c.loop-i.invariant c.input_at.ensures.0 _ c.loop-i-test.true c.next-state.ensures.0 c.next-state.ensures.1

pub returns : goal.returns
returns g c =
    let there : c.loop-i.i ≡ c.args.step = omega (arith, c.loop-i-test.false, c.loop-i.invariant.within) in
    ahead_here (machine_in c.args.table.now) (word_at c.args.words.now c.args.word) c.args.step c.requires.step_in_bounds _ _ _ c.loop-i.invariant (rw there c.input_at-2.ensures.0) _ (omega (arith, there)) c.output.ensures
