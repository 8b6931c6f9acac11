use Rattle.middles.proofs.+count.Given as goal

abbrev pub decreases-count : goal.decreases-count
decreases-count l = l.most
