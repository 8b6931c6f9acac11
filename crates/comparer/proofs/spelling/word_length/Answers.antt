use native.Mathlib.Omega.{arith}
use mathlib.Core.Path.{◌≡◌}
use Rattle.comparer.proofs.Backwards.{back_less, back_length, back_short, back_start}
use Rattle.comparer.proofs.spelling.word_length.Goals as goal

pub loop-at-init : goal.loop-at-init
loop-at-init c = (omega arith, omega arith)

pub parent_at-at-requires : goal.parent_at-at-requires
parent_at-at-requires c = omega (arith, c.loop-at.invariant.0, c.requires.0, c.requires.1)

pub overflow_add-n : goal.overflow_add-n
overflow_add-n c = omega (arith, c.loop-at.invariant.1, back_short c.args.queue.now c.args.place c.requires.2 c.args.place (omega arith), c.requires.1)

pub loop-at-smaller : goal.loop-at-smaller
loop-at-smaller c = back_less c.args.queue.now c.args.place c.requires.2 c.loop-at.at _ c.loop-at-test.true c.loop-at.invariant.0 c.parent_at-at.ensures

pub loop-at-preserved : goal.loop-at-preserved
loop-at-preserved c = (omega (arith, c.loop-at.invariant.0, back_less c.args.queue.now c.args.place c.requires.2 c.loop-at.at _ c.loop-at-test.true c.loop-at.invariant.0 c.parent_at-at.ensures), omega (arith, c.loop-at.invariant.1, back_length c.args.queue.now c.args.place c.requires.2 c.loop-at.at _ c.loop-at-test.true c.loop-at.invariant.0 c.parent_at-at.ensures))

pub returns : goal.returns
returns c = let s = back_start c.args.queue.now c.args.place c.requires.2 c.loop-at.at (omega (arith, c.loop-at-test.false)) in let e : _ ≡ _ = rw s at c.loop-at.invariant.1 in (omega (arith, e), omega (arith, e, back_short c.args.queue.now c.args.place c.requires.2 c.args.place (omega arith)))
