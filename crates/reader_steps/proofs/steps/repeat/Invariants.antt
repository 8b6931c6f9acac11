use Rattle.std.proofs.Common.{Result, ℕ, ◌≡◌, ◌-◌, ◌^◌, ◌<◌}
use Rattle.reader_steps.specs.declared.Stop.{Stop}
use Rattle.reader_steps.specs.Steps.{Gives, repeated}
use Rattle.reader_steps.proofs.steps.repeat.Given as goal

-- what is left to do from p on is all that was to do
abbrev pub invariant-loop : goal.invariant-loop
invariant-loop g l =
    record {
      place : l.p < 2 ^ 64;
      rest : (next : ℕ → Result ℕ Stop) → Gives (2 ^ 64) (goal.F-post g l.one) next → repeated next l.count l.at ≡ repeated next (l.count - l.counter) l.p;
    }
