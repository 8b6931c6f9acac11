use Rattle.std.proofs.Common.{◌≡◌, ◌-◌, length}
use Rattle.reader.specs.Places.{words_at, WordsAt}
use Rattle.walker.specs.Machines.{machine_in}
use Rattle.soundness_reach.proofs.Marks.{Marking}
use Rattle.soundness_reach.proofs.reached.Given as goal

abbrev pub invariant-loop : goal.invariant-loop
invariant-loop l = record {
  stand : WordsAt l.golden.bytes.now l.word l.golden.inputs (l.covers - l.counter);
  room : length l.marks ≡ 64;
  marking : Marking (machine_in l.golden) l.golden.states (words_at l.golden.bytes.now l.cover l.covers) l.marks (words_at l.golden.bytes.now l.word (l.covers - l.counter));
}
