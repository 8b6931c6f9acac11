use Rattle.std.proofs.Common.{◌≡◌, ◌-◌}
use Rattle.rules.specs.Lists.{first, numbers, numbers_from}
use Rattle.reader.specs.Places.{words_at}
use Rattle.walker.specs.Machines.{machine_in}
use Rattle.soundness_reach.specs.Reached.{lacks}
use Rattle.soundness_reach.proofs.unreached.Given as goal

abbrev pub invariant-loop-q : goal.invariant-loop-q
invariant-loop-q l = first (lacks (machine_in l.golden) (words_at l.golden.bytes.now l.cover l.covers)) (numbers l.golden.states) ≡ first (lacks (machine_in l.golden) (words_at l.golden.bytes.now l.cover l.covers)) (numbers_from l.q (l.golden.states - l.q))
