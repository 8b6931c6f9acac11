use Rattle.judge.proofs.Examining.{part_told}
use Rattle.judge.proofs.answer.failing_part.Goals as goal

pub returns-in-Agrees : goal.returns-in-Agrees
returns-in-Agrees c = part_told _ _ _ _ c.examine.ensures c.in-Agrees.is

pub returns-in-Deviates : goal.returns-in-Deviates
returns-in-Deviates c = part_told _ _ _ _ c.examine.ensures c.in-Deviates.is

pub returns-in-Refused : goal.returns-in-Refused
returns-in-Refused c = part_told _ _ _ _ c.examine.ensures c.in-Refused.is
