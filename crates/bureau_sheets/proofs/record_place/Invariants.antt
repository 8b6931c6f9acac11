use Rattle.bureau_sheets.proofs.Deviating.{Looking}
use Prim.Native.Nat.{◌-◌}
use lib.ListN.{length}
use Rattle.reader.specs.Places.{word_at, records_at}
use Rattle.bureau_sheets.proofs.record_place.Given as goal

abbrev pub invariant-loop-place : goal.invariant-loop-place
invariant-loop-place l = Looking l.sheet l.inputs (records_at l.sheet l.first l.count) (word_at l.dossier l.word) l.place

abbrev pub decreases-loop-place : goal.decreases-loop-place
decreases-loop-place l = length l.sheet - l.place
