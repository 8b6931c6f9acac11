use Prim.Native.Nat.{◌-◌, ◌≤◌}
use mathlib.Core.Path.{◌≡◌}
use lib.ListN.{length}
use Rattle.rules.specs.Sizes.{most_states}
use Rattle.theory.specs.Breadth.{step_of}
use Rattle.reader.specs.Standing.{unit_in}
use Rattle.finder_access.specs.Search.{Searching}
use Rattle.finder_access.proofs.search.reach_states.Given as goal

abbrev pub invariant-loop-head : goal.invariant-loop-head
invariant-loop-head l = Searching (unit_in l.unit.bytes.now l.unit.shape) l.queue l.places (step_of l.head 0) l.tail × (l.head ≤ l.tail) × (length l.queue ≡ length l.initial.queue) × (length l.places ≡ length l.initial.places)

abbrev pub decreases-loop-head : goal.decreases-loop-head
decreases-loop-head l = most_states - l.head
