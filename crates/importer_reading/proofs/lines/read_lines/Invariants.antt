use mathlib.Core.Path.{◌≡◌}
use Rattle.importer_reading.proofs.AllLines.{Reading}
use lib.ListN.{length}
use Prim.Native.Nat.{◌-◌}
use Rattle.importer_reading.proofs.lines.read_lines.Given as goal

abbrev pub invariant-loop-from : goal.invariant-loop-from
invariant-loop-from l = Reading l.text l.names l.lengths l.nexts l.outputs l.ranks l.x l.line l.from × (length l.names ≡ length l.initial.names) × (length l.lengths ≡ length l.initial.lengths)
    × (length l.nexts ≡ length l.initial.nexts) × (length l.outputs ≡ length l.initial.outputs) × (length l.ranks ≡ length l.initial.ranks)

abbrev pub decreases-loop-from : goal.decreases-loop-from
decreases-loop-from l = length l.text - l.from
