use Rattle.std.proofs.Common.{arith, refl, ap, not}
use borrow.Author.Tests.{not-true}
use Rattle.finder_distances.specs.Leads.{machine_of_unit}
use Rattle.finder_distances.proofs.Rounding.{unit_whole, first_round, rounds_over, rounds_quiet}
use Rattle.finder_distances.proofs.rounds.find_distances.Goals as goal

pub loop-rounds-init : goal.loop-rounds-init
loop-rounds-init c = record {
  midway = rw c.requires.distances_value (first_round c.args.unit.now.shape.inputs (machine_of_unit c.args.unit.now.bytes.now c.args.unit.now.shape) (unit_whole c.args.unit.now.bytes.now c.args.unit.now.shape c.args.unit.now.stands) c.args.unit.now.stands.few_states);
  long = refl;
}

pub returns-then-not-mark_round : goal.returns-then-not-mark_round
returns-then-not-mark_round c = rounds_quiet c.args.unit.now.bytes.now c.args.unit.now.shape c.args.unit.now.stands c.loop-rounds.rounds _ c.loop-rounds-test.true (rw (not-true c.mark_round.result (ap not c.if-not-mark_round.true)) at c.mark_round.ensures)

pub returns : goal.returns
returns c = rounds_over c.args.unit.now.bytes.now c.args.unit.now.shape c.args.unit.now.stands c.loop-rounds.rounds _ c.loop-rounds-test.false (omega arith) c.loop-rounds.invariant.midway
