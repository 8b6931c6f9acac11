use Rattle.checker.proofs.Accepting.{sound_lent, check_refused, check_held, check_found}
use Rattle.checker.proofs.answer.accept.Goals as goal

pub returns-in_err-x : goal.returns-in_err-x
returns-in_err-x c = check_refused _ _ _ c.from_residual.ensures.1 c.in_err-x.ensures

pub find_lacking-requires-clause-lent : goal.find_lacking-requires-clause-lent
find_lacking-requires-clause-lent c = (sound_lent _ _ c.in_ok-x.ensures).0

pub find_lacking-requires-clause-bytes_value : goal.find_lacking-requires-clause-bytes_value
find_lacking-requires-clause-bytes_value c = (sound_lent _ _ c.in_ok-x.ensures).1

pub returns-in_err-find_lacking : goal.returns-in_err-find_lacking
returns-in_err-find_lacking c = check_found _ _ c.in_ok-x.ensures _ _ c.from_residual-in_err-find_lacking.ensures.1 c.in_err-find_lacking.ensures

pub returns : goal.returns
returns c = check_held _ _ c.in_ok-x.ensures c.in_ok-find_lacking.ensures
