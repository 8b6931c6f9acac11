use Prim.Native.Nat.{ℕ}
use mathlib.Core.List.{List}
use mathlib.Core.Bool.{not}
use Rattle.rules.specs.Words.{is_in}
use Rattle.rules.specs.Files.{SheetRecord}
use Rattle.judge_records.specs.Filed.{Filed, words_of}
use Rattle.judge_records.proofs.Standing.{WordsLeft, WordScan}
use Rattle.judge_pairing.proofs.find_absent.Given as goal

abbrev pub invariant-loop-i : goal.invariant-loop-i
invariant-loop-i l = WordsLeft l.dossier l.place l.inputs l.count l.i l.word × ((s : List ℕ) (k : ℕ) (rs : List SheetRecord) → Filed s k rs l.nodes.label.now l.nodes.first.now l.nodes.next.now l.value → WordScan (λ (i, t). not (is_in t (words_of rs))) l.dossier l.place l.count l.i l.word)
