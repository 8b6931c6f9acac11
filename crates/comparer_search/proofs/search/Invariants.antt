use Rattle.std.proofs.Common.{◌≡◌, ◌-◌, ◌≤◌, length}
use Rattle.comparer_pairs.specs.Sides.{golden_at, unit_at}
use Rattle.comparer_pairs.specs.Pairs.{pairs}
use Rattle.comparer_pairs.specs.Queue.{step_of}
use Rattle.comparer_search.specs.Search.{Searched}
use Rattle.comparer_search.proofs.search.Given as goal

abbrev pub invariant-loop-head : goal.invariant-loop-head
invariant-loop-head l = record {
  searched : Searched l.sides.inputs (golden_at l.sides) (unit_at l.sides) l.marks l.queue (step_of l.head 0) l.tail;
  within : l.head ≤ l.tail;
  few : l.tail ≤ pairs;
  queue_long : length l.queue ≡ length l.initial.queue;
}

abbrev pub decreases-loop-head : goal.decreases-loop-head
decreases-loop-head l = pairs - l.head
