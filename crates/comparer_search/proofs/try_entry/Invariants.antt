use Rattle.std.proofs.Common.{◌≡◌, ◌<◌, ◌≤◌, length}
use Rattle.comparer_pairs.specs.Sides.{golden_at, unit_at}
use Rattle.comparer_pairs.specs.Pairs.{pairs}
use Rattle.comparer_pairs.specs.Queue.{step_of}
use Rattle.comparer_search.specs.Search.{Searched}
use Rattle.comparer_search.proofs.try_entry.Given as goal

abbrev pub invariant-loop-i : goal.invariant-loop-i
invariant-loop-i l = record {
  searched : Searched l.sides.inputs (golden_at l.sides) (unit_at l.sides) l.marks l.queue (step_of l.head l.i) l.last;
  ahead : l.head < l.last;
  few : l.last ≤ pairs;
  marks_long : length l.marks ≡ length l.initial.marks;
  queue_long : length l.queue ≡ length l.initial.queue;
}
