use Rattle.finder_telling.specs.Pairs.{ToldBefore}
use Rattle.finder_distances.specs.Marks.{place_of}
use Prim.Native.Nat.{◌<◌}
use Rattle.finder_telling.proofs.pairs.untold_row.Given as goal

abbrev pub invariant-loop-q : goal.invariant-loop-q
invariant-loop-q l = ToldBefore l.states l.distances (place_of l.p.0 l.q) × (l.p.0 < l.q)
