use Rattle.finder_spelling.proofs.Rows.{InRows}
use Rattle.finder_spelling.proofs.spell_pairs.Given as goal

abbrev pub invariant-loop-p : goal.invariant-loop-p
invariant-loop-p l = InRows l.unit.bytes.now l.unit.shape l.distances l.initial.text l.p l.text l.place l.count
