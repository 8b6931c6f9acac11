use Rattle.finder_telling.specs.Pairs.{ToldBefore}
use Rattle.finder_distances.specs.Marks.{place_of}
use Rattle.finder_telling.proofs.pairs.lowest_untold.Given as goal

abbrev pub invariant-loop-p : goal.invariant-loop-p
invariant-loop-p l = ToldBefore l.states l.distances (place_of l.p 0)
