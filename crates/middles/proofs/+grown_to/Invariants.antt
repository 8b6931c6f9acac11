use Rattle.middles.proofs.+grown_to.Given as goal

abbrev pub decreases-grown_to : goal.decreases-grown_to
decreases-grown_to l = l.left
