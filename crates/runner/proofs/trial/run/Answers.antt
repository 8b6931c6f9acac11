use mathlib.Core.Path.{ap}
use Rattle.rules.specs.Answers.{run_says}
use Rattle.checker.proofs.Accepting.{accepted_at}
use Rattle.runner.proofs.Running.{run_unchecked}
use Rattle.runner.proofs.trial.run.Goals as goal

pub try_unit-requires : goal.try_unit-requires
try_unit-requires c = accepted_at _ _ c.accept.ensures _ c.in-Ok.is

pub returns-in-Ok : goal.returns-in-Ok
returns-in-Ok c = ap run_says c.try_unit.ensures

pub returns-in-Err : goal.returns-in-Err
returns-in-Err c = run_unchecked _ _ c.accept.ensures _ _ c.in-Err.is
