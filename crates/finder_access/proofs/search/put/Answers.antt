use Rattle.theory.specs.Breadth.{step_of}
use mathlib.Core.Path.{◌∙◌}
use native.Mathlib.Omega.{arith}
use Rattle.finder_access.proofs.Searching.{put_free, put_kept, put_queued}
use Rattle.finder_access.proofs.search.put.Goals as goal

pub returns-then-places-number-ne0 : goal.returns-then-places-number-ne0
returns-then-places-number-ne0 c = put_kept c.args.queue.now c.args.places.now c.args.tail c.args.state.0 (step_of c.args.head c.args.input.0) c.wide-number.result (c.wide-number.ensures.0 ∙ c.number.ensures) (omega (arith, c.if-places-number-ne0.true))

pub offset_bounds-queue-tail : goal.offset_bounds-queue-tail
offset_bounds-queue-tail c = omega (arith, put_free c.args.places.now (c.wide-number.ensures.0 ∙ c.number.ensures) c.requires.tail_lt_most_states (omega (arith, c.if-places-number-ne0.false)))

pub bounds-queue-tail : goal.bounds-queue-tail
bounds-queue-tail c = omega (arith, put_free c.args.places.now (c.wide-number.ensures.0 ∙ c.number.ensures) c.requires.tail_lt_most_states (omega (arith, c.if-places-number-ne0.false)), c.requires.queue_len.0)

pub overflow_add-places : goal.overflow_add-places
overflow_add-places c = omega (arith, put_free c.args.places.now (c.wide-number.ensures.0 ∙ c.number.ensures) c.requires.tail_lt_most_states (omega (arith, c.if-places-number-ne0.false)))

pub overflow_cast-places : goal.overflow_cast-places
overflow_cast-places c = omega (arith, put_free c.args.places.now (c.wide-number.ensures.0 ∙ c.number.ensures) c.requires.tail_lt_most_states (omega (arith, c.if-places-number-ne0.false)))

pub overflow_add-result : goal.overflow_add-result
overflow_add-result c = omega (arith, put_free c.args.places.now (c.wide-number.ensures.0 ∙ c.number.ensures) c.requires.tail_lt_most_states (omega (arith, c.if-places-number-ne0.false)))

pub returns : goal.returns
returns c = put_queued c.args.queue.now c.args.places.now c.args.tail c.args.state.0 (step_of c.args.head c.args.input.0) c.wide-number.result (c.wide-number.ensures.0 ∙ c.number.ensures) (omega (arith, c.if-places-number-ne0.false)) _ c.entry.ensures
