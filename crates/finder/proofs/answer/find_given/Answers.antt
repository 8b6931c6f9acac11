use Rattle.finder.proofs.Finding.{bad_bound, bounded}
use Rattle.std.proofs.Common.{ap}
use Rattle.std.specs.Prelude.{not}
use Rattle.finder.proofs.answer.find_given.Goals as goal

pub returns-then-not-bound_in_range : goal.returns-then-not-bound_in_range
returns-then-not-bound_in_range c = bad_bound c.requires _ _ c.bound_in_range.ensures _ (ap not c.if-not-bound_in_range.true)

pub find_bounded-requires : goal.find_bounded-requires
find_bounded-requires c = bounded c.requires _ _ c.bound_in_range.ensures (ap not c.if-not-bound_in_range.false)
