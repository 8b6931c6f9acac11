use Rattle.importer_terms.proofs.Bits.{Fitting}
use Rattle.importer_terms.proofs.cubes.cube_has.Given as goal

abbrev pub invariant-loop-at : goal.invariant-loop-at
invariant-loop-at l = Fitting l.text l.start l.end l.number l.at
