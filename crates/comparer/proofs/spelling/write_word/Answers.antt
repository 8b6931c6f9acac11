use native.Mathlib.Omega.{arith}
use mathlib.Core.Path.{refl, ◌∙◌}
use lib.ListN.{length-set}
use Rattle.comparer.proofs.Backwards.{back_less, back_length, back_written, back_start}
use Rattle.comparer.proofs.spelling.write_word.Goals as goal

pub loop-at-init : goal.loop-at-init
loop-at-init c = (omega arith, c.requires.len_value.0, c.requires.len_value.1, refl, refl)

pub overflow_sub-left : goal.overflow_sub-left
overflow_sub-left c = omega (arith, c.loop-at.invariant.1, back_length c.args.queue.now c.args.place c.requires.queue_len.2 c.loop-at.at _ c.loop-at-test.true c.loop-at.invariant.0 refl)

pub input_at-requires : goal.input_at-requires
input_at-requires c = omega (arith, c.loop-at.invariant.0, c.requires.queue_len.0, c.requires.queue_len.1)

pub bounds-out-left : goal.bounds-out-left
bounds-out-left c = omega (arith, c.loop-at.invariant.2, c.loop-at.invariant.1, back_length c.args.queue.now c.args.place c.requires.queue_len.2 c.loop-at.at _ c.loop-at-test.true c.loop-at.invariant.0 refl)

pub parent_at-at-requires : goal.parent_at-at-requires
parent_at-at-requires c = omega (arith, c.loop-at.invariant.0, c.requires.queue_len.0, c.requires.queue_len.1)

pub loop-at-smaller : goal.loop-at-smaller
loop-at-smaller c = back_less c.args.queue.now c.args.place c.requires.queue_len.2 c.loop-at.at _ c.loop-at-test.true c.loop-at.invariant.0 c.parent_at-at.ensures

pub loop-at-preserved : goal.loop-at-preserved
loop-at-preserved c = (omega (arith, c.loop-at.invariant.0, back_less c.args.queue.now c.args.place c.requires.queue_len.2 c.loop-at.at _ c.loop-at-test.true c.loop-at.invariant.0 c.parent_at-at.ensures), omega (arith, c.loop-at.invariant.1, back_length c.args.queue.now c.args.place c.requires.queue_len.2 c.loop-at.at _ c.loop-at-test.true c.loop-at.invariant.0 c.parent_at-at.ensures), simp length-set (omega (arith, c.loop-at.invariant.2)), simp length-set c.loop-at.invariant.3, back_written c.args.queue.now c.args.place c.requires.queue_len.2 c.loop-at.at _ c.loop-at-test.true c.loop-at.invariant.0 c.parent_at-at.ensures _ _ _ c.loop-at.invariant.1 c.loop-at.invariant.2 (c.number.ensures ∙ c.input_at.ensures) ∙ c.loop-at.invariant.4)

pub shape_of-out : goal.shape_of-out
shape_of-out c = c.loop-at.invariant.3

pub returns : goal.returns
returns c = let s = back_start c.args.queue.now c.args.place c.requires.queue_len.2 c.loop-at.at (omega (arith, c.loop-at-test.false)) in rw s at c.loop-at.invariant.4
