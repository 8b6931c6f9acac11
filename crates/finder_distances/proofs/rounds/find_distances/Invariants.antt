use Rattle.std.proofs.Common.{◌≡◌, false, length}
use Rattle.finder_distances.specs.Rounds.{Midway}
use Rattle.finder_distances.specs.Leads.{machine_of_unit}
use Rattle.finder_distances.proofs.rounds.find_distances.Given as goal

abbrev pub invariant-loop-rounds : goal.invariant-loop-rounds
invariant-loop-rounds l = record {
  midway : Midway l.unit.shape.inputs (machine_of_unit l.unit.bytes.now l.unit.shape) l.rounds 0 false l.distances;
  long : length l.distances ≡ length l.initial.distances;
}
