use Rattle.runner.proofs.Sums.{tests_stand, cost_held, cost_refused}
use Rattle.runner.proofs.costing.cost.Goals as goal

pub sum_lengths-sum-requires : goal.sum_lengths-sum-requires
sum_lengths-sum-requires c = tests_stand _ _ c.read_dossier.ensures _ c.in-Ok.is

pub returns-in-Ok : goal.returns-in-Ok
returns-in-Ok c = cost_held _ _ c.read_dossier.ensures _ c.in-Ok.is _ c.sum_lengths-sum.ensures

pub returns-in-Err : goal.returns-in-Err
returns-in-Err c = cost_refused _ _ c.read_dossier.ensures _ c.in-Err.is
