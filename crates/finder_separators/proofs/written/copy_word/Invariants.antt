use Rattle.finder_separators.proofs.Copying.{Copying}
use Rattle.finder_separators.proofs.written.copy_word.Given as goal

abbrev pub invariant-loop-i : goal.invariant-loop-i
invariant-loop-i l = Copying l.text l.word l.initial.out l.at l.out l.i
