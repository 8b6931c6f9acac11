use Rattle.checker.proofs.Accepting.{says_accepted, says_refused}
use Rattle.checker.proofs.answer.check.Goals as goal

pub returns-in-Ok : goal.returns-in-Ok
returns-in-Ok c = says_accepted _ _ c.accept.ensures _ c.in-Ok.is

pub returns-in-Err : goal.returns-in-Err
returns-in-Err c = says_refused _ _ c.accept.ensures _ c.in-Err.is
