use Rattle.finder_separators.proofs.Copying.{Measuring}
use Rattle.finder_separators.proofs.written.separators_size.Given as goal

abbrev pub invariant-loop-j : goal.invariant-loop-j
invariant-loop-j l = Measuring l.text l.places l.count l.size l.j
