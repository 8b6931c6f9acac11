use Rattle.finder_separators.proofs.Copying.{Listing}
use Rattle.finder_separators.proofs.written.write_separators.Given as goal

abbrev pub invariant-loop-j : goal.invariant-loop-j
invariant-loop-j l = Listing l.text l.places l.count l.initial.out l.at l.j l.out l.place
