use Rattle.line.proofs.Verdicts.{malformed_line, unit_at_lem}
use Rattle.line.proofs.ran.write_trial.Goals as goal

pub write_verdict-requires-clause-unit_at : goal.write_verdict-requires-clause-unit_at
write_verdict-requires-clause-unit_at c = unit_at_lem _ _ c.requires.accepted_at _ _ c.read_unit.ensures _ c.in-Ok.is

pub returns-in-Err : goal.returns-in-Err
returns-in-Err c = rw (← (malformed_line _ _ c.requires.accepted_at _ _ c.read_unit.ensures _ c.in-Err.is)) c.write_refusal.ensures
