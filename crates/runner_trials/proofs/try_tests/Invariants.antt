use Rattle.runner_trials.specs.Trials.{TestsLeft}
use Rattle.runner_trials.proofs.try_tests.Given as goal

abbrev pub invariant-loop-place : goal.invariant-loop-place
invariant-loop-place l = TestsLeft l.dossier l.fn.x l.unit l.fn.y l.place l.word
