use Prim.Native.Nat.{◌≤◌}
use mathlib.Core.Path.{refl, ap, ◌∙◌}
use native.Mathlib.Omega.{arith}
use lib.ListN.{length, length-set}
use Rattle.reader.specs.Standing.{unit_in}
use Rattle.finder_access.proofs.Searching.{unplaced-length, unit_complete, search_start, search_done, search_counted}
use Rattle.finder_access.proofs.search.reach_states.Goals as goal

pub bounds-queue-0 : goal.bounds-queue-0
bounds-queue-0 c = omega (arith, c.requires.queue_len.0)

pub bounds-places-0 : goal.bounds-places-0
bounds-places-0 c = omega (arith, ap length c.requires.queue_len.1, unplaced-length)

pub loop-head-init : goal.loop-head-init
loop-head-init c = let u = unit_in c.args.unit.now.bytes.now c.args.unit.now.shape in let whole = unit_complete c.args.unit.now.bytes.now c.args.unit.now.shape c.args.unit.now.stands in (search_start u whole c.args.unit.now.stands.few_inputs c.args.unit.now.stands.few_states c.args.queue.now c.args.places.now c.requires.queue_len.0 c.requires.queue_len.1, omega arith, refl, refl)

pub try_entry-tail-requires-clause-searching : goal.try_entry-tail-requires-clause-searching
try_entry-tail-requires-clause-searching c = c.loop-head.invariant.0

pub try_entry-tail-requires-clause-head_lt_tail : goal.try_entry-tail-requires-clause-head_lt_tail
try_entry-tail-requires-clause-head_lt_tail c = c.loop-head-test.true

pub overflow_add-head : goal.overflow_add-head
overflow_add-head c = omega (arith, c.loop-head-test.true, c.loop-head.invariant.0.few, c.args.unit.now.stands.few_states)

pub loop-head-smaller : goal.loop-head-smaller
loop-head-smaller c = omega (arith, c.loop-head-test.true, c.loop-head.invariant.0.few, c.args.unit.now.stands.few_states)

pub loop-head-preserved : goal.loop-head-preserved
loop-head-preserved c = (c.try_entry-tail.ensures.0, omega (arith, c.try_entry-tail.ensures.1), c.try_entry-tail.auto.queue ∙ c.loop-head.invariant.2, c.try_entry-tail.auto.places ∙ c.loop-head.invariant.3)

pub shape_of-queue : goal.shape_of-queue
shape_of-queue c = c.loop-head.invariant.2 ∙ length-set c.args.queue.now 0 0

pub shape_of-places : goal.shape_of-places
shape_of-places c = c.loop-head.invariant.3 ∙ length-set c.args.places.now 0 1

pub returns : goal.returns
returns c = let u = unit_in c.args.unit.now.bytes.now c.args.unit.now.shape in let whole = unit_complete c.args.unit.now.bytes.now c.args.unit.now.shape c.args.unit.now.stands in let all : c.loop-head.tail ≤ c.loop-head.head = omega (arith, c.loop-head-test.false) in (search_done u whole c.args.unit.now.stands.few_inputs c.args.unit.now.stands.few_states c.loop-head.queue c.loop-head.places c.loop-head.head c.loop-head.tail c.loop-head.invariant.0 all, search_counted u whole c.args.unit.now.stands.few_inputs c.args.unit.now.stands.few_states c.loop-head.queue c.loop-head.places c.loop-head.head c.loop-head.tail c.loop-head.invariant.0 all)
