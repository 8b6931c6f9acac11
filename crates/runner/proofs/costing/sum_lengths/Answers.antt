use Rattle.std.proofs.Common.{arith, sym}
use native.Mathlib.Nat.{sub-zero, zero-add}
use Rattle.walker.proofs.Turns.{turn}
use Rattle.runner.proofs.Sums.{sum_next, sum_end}
use Rattle.runner.proofs.costing.sum_lengths.Goals as goal

pub loop-init : goal.loop-init
loop-init c = record { stand = rw (sub-zero c.args.count) c.requires; small = omega arith; so_far = rw (sub-zero c.args.count) (sym (zero-add _)) }

pub word_length-sum-requires : goal.word_length-sum-requires
word_length-sum-requires c = (turn _ _ _ _ _ c.loop-test.true c.loop.invariant.stand).here.inside

pub overflow_add-sum : goal.overflow_add-sum
overflow_add-sum c = let h = (turn _ _ _ _ _ c.loop-test.true c.loop.invariant.stand).here.inside in omega (arith, c.word_length-sum.ensures.1)

pub word_end-word-requires : goal.word_end-word-requires
word_end-word-requires c = (turn _ _ _ _ _ c.loop-test.true c.loop.invariant.stand).here.inside

pub loop-preserved : goal.loop-preserved
loop-preserved c =
    record {
      stand = rw c.word_end-word.ensures.0 (turn _ _ _ _ _ c.loop-test.true c.loop.invariant.stand).rest;
      small = omega (arith, c.word_length-sum.ensures.1, c.word_end-word.ensures.0);
      so_far = sum_next _ _ _ _ _ _ c.loop.invariant.so_far _ _ _ c.loop-test.true c.loop.invariant.stand c.word_length-sum.ensures.0 c.word_end-word.ensures.0;
    }

pub returns : goal.returns
returns c = sum_end _ _ _ _ _ _ c.loop.invariant.so_far c.loop-test.false
