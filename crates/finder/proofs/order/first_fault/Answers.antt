use Rattle.finder.proofs.Finding.{state_first, pair_second, neither}
use Rattle.finder.proofs.order.first_fault.Goals as goal

pub returns-in-Some : goal.returns-in-Some
returns-in-Some c = λ q a lowest two. state_first _ _ q a lowest two _ c.in-Some.is

pub returns-in-Some-pair : goal.returns-in-Some-pair
returns-in-Some-pair c = λ q a lowest two. pair_second _ _ q a lowest two c.in-None.is _ _ c.in-Some-pair.is

pub returns-in-None-pair : goal.returns-in-None-pair
returns-in-None-pair c = λ q a lowest two. neither _ _ q a lowest two c.in-None.is c.in-None-pair.is
