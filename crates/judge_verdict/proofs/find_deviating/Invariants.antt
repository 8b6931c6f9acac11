use mathlib.Core.Path.{◌≡◌}
use mathlib.Core.List.{List}
use mathlib.Core.Bool.{not}
use Rattle.rules.specs.Words.{same}
use Rattle.rules.specs.Machines.{answer}
use Rattle.rules.specs.Files.{SheetRecord}
use Rattle.rules.specs.Operations.{recorded_for}
use Rattle.theory.specs.Pairing.{NoneRepeated}
use Rattle.reader.specs.Places.{word_place, machine_at}
use Rattle.judge_records.specs.Filed.{Filed}
use Rattle.judge_records.proofs.Standing.{WordsLeft, WordScan}
use Rattle.judge_verdict.proofs.find_deviating.Given as goal

abbrev pub invariant-loop-i : goal.invariant-loop-i
invariant-loop-i l = WordsLeft l.dossier l.fn.x.tests l.fn.x.inputs l.fn.x.count l.i l.word × (l.word ≡ word_place l.dossier l.fn.x.tests l.i) × ((rs : List SheetRecord) → Filed l.sheet l.fn.x.inputs rs l.nodes.label.now l.nodes.first.now l.nodes.next.now l.value → NoneRepeated rs → WordScan (λ (i, t). not (same (answer (machine_at l.dossier l.fn.x.table l.fn.x.inputs l.fn.x.states) t) (recorded_for rs t))) l.dossier l.fn.x.tests l.fn.x.count l.i l.word)
