use Rattle.checker.proofs.Accepting.{accepted_at}
use Rattle.line.proofs.Verdicts.{unchecked_line}
use Rattle.line.proofs.ran.write_run_line.Goals as goal

pub write_trial-requires-clause-accepted_at : goal.write_trial-requires-clause-accepted_at
write_trial-requires-clause-accepted_at c = accepted_at _ _ c.accept.ensures _ c.in-Ok.is

pub returns-in-Err : goal.returns-in-Err
returns-in-Err c = rw (← (unchecked_line _ _ _ _ c.accept.ensures c.in-Err.is)) c.write_refusal.ensures
