use Rattle.std.proofs.Common.{arith, refl}
use Rattle.runner_trials.proofs.Tests.{tests_start, tests_end, test_here, test_fails, test_passes}
use Rattle.runner_trials.proofs.try_tests.Goals as goal

pub loop-place-init : goal.loop-place-init
loop-place-init c = tests_start _ _ _ _ c.requires

pub unit_difference-requires-clause-word_at : goal.unit_difference-requires-clause-word_at
unit_difference-requires-clause-word_at c = rw c.standing-golden.ensures.2 (test_here _ _ _ _ _ _ c.loop-place.invariant (omega (arith, c.loop-place-test.true)))

pub returns-in-Some : goal.returns-in-Some
returns-in-Some c =
    test_fails _ _ _ _ _ _ c.loop-place.invariant (omega (arith, c.loop-place-test.true)) _ _ c.standing-golden.ensures.4 c.standing-tried.ensures.4 _ c.in-Some.ensures _ refl

pub word_end-word-requires : goal.word_end-word-requires
word_end-word-requires c = (test_here _ _ _ _ _ _ c.loop-place.invariant (omega (arith, c.loop-place-test.true))).inside

pub loop-place-preserved : goal.loop-place-preserved
loop-place-preserved c =
    test_passes _ _ _ _ _ _ c.loop-place.invariant (omega (arith, c.loop-place-test.true)) _ _ c.standing-golden.ensures.4 c.standing-tried.ensures.4 _ c.in_default.ensures _ refl c.word_end-word.ensures.0

pub returns : goal.returns
returns c = tests_end _ _ _ _ _ _ c.loop-place.invariant (omega (arith, c.loop-place-test.false))
