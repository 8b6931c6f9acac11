use native.Mathlib.Omega.{arith}
use Rattle.runner.proofs.Running.{run_malformed_unit, run_other_inputs, run_too_many_states, trial_at}
use Rattle.runner.proofs.trial.try_unit.Goals as goal

pub returns-then-inputs-y : goal.returns-then-inputs-y
returns-then-inputs-y c = run_other_inputs _ _ c.requires _ _ c.read_unit.ensures _ c.in-Ok.is (λ e. omega (arith, e, c.if-inputs-y.true))

pub returns-then-bound_of-y : goal.returns-then-bound_of-y
returns-then-bound_of-y c = run_too_many_states _ _ c.requires _ _ c.read_unit.ensures _ c.in-Ok.is (omega (arith, c.if-inputs-y.false)) _ c.bound_of.ensures (omega (arith, c.if-bound_of-y.true))

pub try_tests-requires : goal.try_tests-requires
try_tests-requires c = trial_at _ _ c.requires _ _ c.read_unit.ensures _ c.in-Ok.is (omega (arith, c.if-inputs-y.false)) _ c.bound_of.ensures (omega (arith, c.if-bound_of-y.false))

pub returns-in-Err : goal.returns-in-Err
returns-in-Err c = run_malformed_unit _ _ c.requires _ _ c.read_unit.ensures _ c.in-Err.is
