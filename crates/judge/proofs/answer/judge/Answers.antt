use Rattle.judge.proofs.Examining.{says_judged}
use Rattle.judge.proofs.answer.judge.Goals as goal

pub returns-in-Agrees : goal.returns-in-Agrees
returns-in-Agrees c = says_judged _ _ _ _ c.examine.ensures c.in-Agrees.is

pub returns-in-Deviates : goal.returns-in-Deviates
returns-in-Deviates c = says_judged _ _ _ _ c.examine.ensures c.in-Deviates.is

pub returns-in-Refused : goal.returns-in-Refused
returns-in-Refused c = says_judged _ _ _ _ c.examine.ensures c.in-Refused.is
