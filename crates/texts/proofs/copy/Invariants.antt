use Rattle.std.proofs.Common.{◌≡◌, length}
use lib.Seq.{paste}
use Rattle.texts.proofs.copy.Given as goal

abbrev pub invariant-loop-i : goal.invariant-loop-i
invariant-loop-i l = record {
  pasted : l.out ≡ paste l.initial.out l.at l.text l.i;
  long : length l.out ≡ length l.initial.out;
}
