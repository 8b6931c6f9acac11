use Rattle.std.proofs.Common.{◌≡◌, ◌<◌, length}
use Rattle.theory.specs.Breadth.{step_of}
use Rattle.reader.specs.Standing.{unit_in}
use Rattle.finder_access.specs.Search.{Searching}
use Rattle.finder_access.proofs.search.try_entry.Given as goal

abbrev pub invariant-loop-i : goal.invariant-loop-i
invariant-loop-i l = record {
  searching : Searching (unit_in l.unit.bytes.now l.unit.shape) l.queue l.places (step_of l.head l.i) l.last;
  ahead : l.head < l.last;
  queue_long : length l.queue ≡ length l.initial.queue;
  places_long : length l.places ≡ length l.initial.places;
}
