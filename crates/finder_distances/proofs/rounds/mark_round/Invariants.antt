use Rattle.std.proofs.Common.{◌≡◌, length}
use Rattle.finder_distances.specs.Rounds.{Midway}
use Rattle.finder_distances.specs.Marks.{place_of}
use Rattle.finder_distances.specs.Leads.{machine_of_unit}
use Rattle.finder_distances.proofs.rounds.mark_round.Given as goal

abbrev pub invariant-loop-p : goal.invariant-loop-p
invariant-loop-p l = record {
  midway : Midway l.unit.shape.inputs (machine_of_unit l.unit.bytes.now l.unit.shape) l.rounds (place_of l.p 0) l.changed l.distances;
  long : length l.distances ≡ length l.initial.distances;
}
