use Rattle.reader.specs.Places.{word_at}
use Rattle.walker.specs.Machines.{machine_in}
use Rattle.walker_lookup.proofs.Lookups.{Ahead}
use Rattle.walker_lookup.proofs.output_at.Given as goal

abbrev pub invariant-loop-i : goal.invariant-loop-i
invariant-loop-i g l = Ahead (machine_in l.table) (word_at l.words l.word) l.step (g.S.State.at l.state) l.i
