use mathlib.Core.Path.{refl, ◌∙◌}
use native.Mathlib.Omega.{arith}
use lib.ListN.{length-set}
use Rattle.finder_access.proofs.Backwards.{back_less, back_length, back_written, back_start}
use Rattle.finder_access.proofs.spelling.write_word.Goals as goal

pub loop-at-init : goal.loop-at-init
loop-at-init c = (omega arith, refl, λ word s. (omega (arith, c.requires.queue_len.2.long word s), refl))

pub overflow_add-n : goal.overflow_add-n
overflow_add-n c = let long = (c.loop-at.invariant.2 c.requires.queue_len.2.word c.requires.queue_len.2.spelt).0 in let more = back_length c.args.place c.requires.queue_len.2.spelt c.loop-at.at _ c.loop-at-test.true c.loop-at.invariant.0 refl in omega (arith, c.requires.len_in_bounds)

pub input_at-requires : goal.input_at-requires
input_at-requires c = omega (arith, c.loop-at.invariant.0, c.requires.queue_len.0, c.requires.queue_len.1)

pub overflow_sub-out : goal.overflow_sub-out
overflow_sub-out c = let long = (c.loop-at.invariant.2 c.requires.queue_len.2.word c.requires.queue_len.2.spelt).0 in let more = back_length c.args.place c.requires.queue_len.2.spelt c.loop-at.at _ c.loop-at-test.true c.loop-at.invariant.0 refl in omega (arith, long, more)

pub overflow_add-out : goal.overflow_add-out
overflow_add-out c = let long = (c.loop-at.invariant.2 c.requires.queue_len.2.word c.requires.queue_len.2.spelt).0 in let more = back_length c.args.place c.requires.queue_len.2.spelt c.loop-at.at _ c.loop-at-test.true c.loop-at.invariant.0 refl in omega (arith, long, more, c.requires.len_in_bounds)

pub bounds-out-start : goal.bounds-out-start
bounds-out-start c = let long = (c.loop-at.invariant.2 c.requires.queue_len.2.word c.requires.queue_len.2.spelt).0 in let more = back_length c.args.place c.requires.queue_len.2.spelt c.loop-at.at _ c.loop-at-test.true c.loop-at.invariant.0 refl in omega (arith, long, more, c.requires.len_in_bounds, c.loop-at.invariant.1)

pub parent_at-at-requires : goal.parent_at-at-requires
parent_at-at-requires c = omega (arith, c.loop-at.invariant.0, c.requires.queue_len.0, c.requires.queue_len.1)

pub loop-at-smaller : goal.loop-at-smaller
loop-at-smaller c = back_less c.args.place c.requires.queue_len.2.spelt.falls c.loop-at.at _ c.loop-at-test.true c.loop-at.invariant.0 c.parent_at-at.ensures

pub loop-at-preserved : goal.loop-at-preserved
loop-at-preserved c = let less = back_less c.args.place c.requires.queue_len.2.spelt.falls c.loop-at.at _ c.loop-at-test.true c.loop-at.invariant.0 c.parent_at-at.ensures in (omega (arith, c.loop-at.invariant.0), simp length-set c.loop-at.invariant.1, λ word s. let so_far = c.loop-at.invariant.2 word s in let more = back_length c.args.place s c.loop-at.at _ c.loop-at-test.true c.loop-at.invariant.0 c.parent_at-at.ensures in (omega (arith, so_far.0, more), back_written c.args.place s c.loop-at.at _ c.loop-at-test.true c.loop-at.invariant.0 c.parent_at-at.ensures c.loop-at.n c.args.len _ c.args.start _ c.loop-at.out so_far.0 (omega (arith, so_far.0, more)) (c.number.ensures ∙ c.input_at.ensures) ∙ so_far.1))

pub shape_of-out : goal.shape_of-out
shape_of-out c = c.loop-at.invariant.1

pub returns : goal.returns
returns c = λ word s. rw (back_start c.args.place s c.loop-at.at (omega (arith, c.loop-at-test.false))) at (c.loop-at.invariant.2 word s).1
