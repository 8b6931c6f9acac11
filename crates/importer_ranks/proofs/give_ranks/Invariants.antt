use Rattle.importer_ranks.proofs.Ranking.{Ranking}
use Rattle.importer_ranks.proofs.give_ranks.Given as goal

abbrev pub invariant-loop-j : goal.invariant-loop-j
invariant-loop-j l = Ranking l.initial.ranks l.count l.ranked l.ranks l.all l.j
