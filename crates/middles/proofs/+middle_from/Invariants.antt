use Rattle.middles.proofs.+middle_from.Given as goal

abbrev pub decreases-middle_from : goal.decreases-middle_from
decreases-middle_from l = l.left
