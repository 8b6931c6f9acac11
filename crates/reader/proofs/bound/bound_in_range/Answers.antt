use Rattle.reader.proofs.Bounds.{bound_below, bound_near, bound_over}
use Rattle.reader.proofs.bound.bound_in_range.Goals as goal

pub returns-then-bound-states : goal.returns-then-bound-states
returns-then-bound-states c = bound_below _ c.args.byte _ c.bound_of-bound.ensures c.if-bound-states.true

pub returns-then-bound-le-MOST_STATES : goal.returns-then-bound-le-MOST_STATES
returns-then-bound-le-MOST_STATES c = bound_near _ c.args.byte _ c.bound_of-bound.ensures c.if-bound-states.false c.if-bound-le-MOST_STATES.true

pub returns-else-bound-le-MOST_STATES : goal.returns-else-bound-le-MOST_STATES
returns-else-bound-le-MOST_STATES c = bound_over _ c.args.byte _ c.bound_of-bound.ensures c.if-bound-states.false c.if-bound-le-MOST_STATES.false
