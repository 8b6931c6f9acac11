use Prim.Native.Nat.{◌+◌, ◌-◌}
use native.Mathlib.Omega.{arith}
use mathlib.Core.Path.{◌≡◌}
use Rattle.reader.specs.Turns.{word_turn}
use Rattle.judge_pairing.proofs.Marks.{marking_begin}
use Rattle.judge_pairing.proofs.Pairs.{marking_next, marking_end}
use Rattle.judge_pairing.proofs.foreign.mark_tests.Goals as goal

pub loop-init : goal.loop-init
loop-init c =
    let whole : c.args.count - 0 ≡ c.args.count = omega arith in
    rw whole (c.requires.words_at, λ t h. marking_begin t _ _ (c.clear_marks.ensures t))

pub mark_test-requires-clause-whole : goal.mark_test-requires-clause-whole
mark_test-requires-clause-whole c = (word_turn _ _ _ (c.args.count - c.loop.counter) (omega (arith, c.loop-test.true)) c.loop.invariant.0).here.inside

pub word_end-word-requires : goal.word_end-word-requires
word_end-word-requires c = (word_turn _ _ _ (c.args.count - c.loop.counter) (omega (arith, c.loop-test.true)) c.loop.invariant.0).here.inside

pub loop-preserved : goal.loop-preserved
loop-preserved c =
    let less : c.args.count - (c.loop.counter + 1) ≡ c.args.count - c.loop.counter - 1 = omega arith in
    rw (less, c.word_end-word.ensures.0) (
      (word_turn _ _ _ (c.args.count - c.loop.counter) (omega (arith, c.loop-test.true)) c.loop.invariant.0).rest,
      λ t h. marking_next t _ _ _ _ (c.args.count - c.loop.counter) _ _ (omega (arith, c.loop-test.true)) c.loop.invariant.0 (λ rest x. c.mark_test.ensures t _ rest h x) (c.loop.invariant.1 t h),
    )

pub returns : goal.returns
returns c = λ t h. marking_end t _ _ _ c.args.inputs (c.args.count - c.loop.counter) _ (omega (arith, c.loop-test.false)) (c.loop.invariant.1 t h)
