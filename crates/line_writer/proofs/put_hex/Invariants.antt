use Rattle.line_writer.proofs.Writing.{Putting}
use Rattle.rules.specs.Line.{hex}
use Rattle.line_writer.proofs.put_hex.Given as goal

abbrev pub invariant-loop-i : goal.invariant-loop-i
invariant-loop-i l = Putting (hex l.word) l.initial.out l.at l.out l.i
