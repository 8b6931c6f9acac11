use Rattle.finder_distances.proofs.Rounding.{unit_whole, known_pair, left_pair, marked_pair}
use Rattle.finder_distances.specs.Leads.{machine_of_unit}
use native.Mathlib.Omega.{arith}
use Rattle.finder_distances.proofs.rounds.mark_pair.Goals as goal

pub returns-then-distance_at-ne0 : goal.returns-then-distance_at-ne0
returns-then-distance_at-ne0 c = known_pair c.args.unit.now.shape.inputs (machine_of_unit c.args.unit.now.bytes.now c.args.unit.now.shape) (unit_whole c.args.unit.now.bytes.now c.args.unit.now.shape c.args.unit.now.stands) c.args.unit.now.stands.few_states c.args.rounds c.args.changed c.args.distances.now c.args.p.0 c.args.q.0 c.requires.p_lt_q.0 c.requires.p_lt_q.1 c.requires.midway _ c.distance_at.ensures c.if-distance_at-ne0.true

pub returns-in-Some : goal.returns-in-Some
returns-in-Some c = marked_pair c.args.unit.now.shape.inputs (machine_of_unit c.args.unit.now.bytes.now c.args.unit.now.shape) (unit_whole c.args.unit.now.bytes.now c.args.unit.now.shape c.args.unit.now.stands) c.args.unit.now.stands.few_states c.args.rounds c.args.changed c.args.distances.now c.args.p.0 c.args.q.0 c.requires.p_lt_q.0 c.requires.p_lt_q.1 c.requires.midway _ c.distance_at.ensures (omega (arith, c.if-distance_at-ne0.false)) _ c.find_lead.ensures _ _ c.in-Some.is c.set_distance.ensures

pub returns-in-None : goal.returns-in-None
returns-in-None c = left_pair c.args.unit.now.shape.inputs (machine_of_unit c.args.unit.now.bytes.now c.args.unit.now.shape) (unit_whole c.args.unit.now.bytes.now c.args.unit.now.shape c.args.unit.now.stands) c.args.unit.now.stands.few_states c.args.rounds c.args.changed c.args.distances.now c.args.p.0 c.args.q.0 c.requires.p_lt_q.0 c.requires.p_lt_q.1 c.requires.midway _ c.distance_at.ensures (omega (arith, c.if-distance_at-ne0.false)) _ c.find_lead.ensures c.in-None.is
