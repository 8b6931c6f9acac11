use Rattle.line.proofs.Verdicts.{passes_line_lem, refused_line_lem, failing_at}
use Rattle.line.proofs.ran.write_verdict.Goals as goal

pub write_failing-requires-clause-failing_at : goal.write_failing-requires-clause-failing_at
write_failing-requires-clause-failing_at c = failing_at _ _ _ c.try_unit.ensures _ _ c.requires.accepted_at c.requires.unit_at _ _ c.in-Fails.is

pub returns-in-Passes : goal.returns-in-Passes
returns-in-Passes c = rw (← (passes_line_lem _ _ _ c.try_unit.ensures _ c.in-Passes.is)) c.write_passes.ensures

pub returns-in-Refused : goal.returns-in-Refused
returns-in-Refused c = rw (← (refused_line_lem _ _ _ c.try_unit.ensures _ c.in-Refused.is)) c.write_refusal.ensures
