use mathlib.Core.List.{List}
use mathlib.Core.Bool.{not}
use Rattle.rules.specs.Words.{Word, is_in}
use Rattle.reader.specs.Places.{records_at}
use Rattle.judge_records.specs.Filed.{words_of}
use Rattle.judge_pairing.specs.Marked.{Knowing}
use Rattle.judge_records.proofs.Standing.{RecordsLeft, RecordScan}
use Rattle.judge_pairing.proofs.foreign.find_foreign.Given as goal

abbrev pub invariant-loop-i : goal.invariant-loop-i
invariant-loop-i l = RecordsLeft l.sheet l.place l.inputs l.count l.i l.at × ((tests : List Word) → Knowing tests (words_of (records_at l.sheet l.place l.count)) l.nodes.label.now l.nodes.first.now l.nodes.next.now l.marks → RecordScan (λ (i, r). not (is_in r.word tests)) l.sheet l.place l.count l.i l.at)
