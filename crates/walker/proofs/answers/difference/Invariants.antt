use Rattle.std.proofs.Common.{◌≡◌, ◌<◌, drop}
use Rattle.rules.specs.Machines.{answer_from}
use Rattle.reader.specs.Places.{word_at}
use Rattle.walker.specs.Machines.{machine_in}
use Rattle.walker.specs.Walks.{differ_at}
use Rattle.walker.proofs.Steps.{differ_from}
use Rattle.walker.proofs.answers.difference.Given as goal

abbrev pub invariant-loop-step : goal.invariant-loop-step
invariant-loop-step g l = record {
  one : g.S.State.at l.g < l.one.states;
  other : g.T.State.at l.u < l.other.states;
  so_far : differ_at (answer_from (machine_in l.one) (g.S.State.at l.fn.p) (word_at l.words l.word)) (answer_from (machine_in l.other) (g.T.State.at l.fn.q) (word_at l.words l.word)) ≡ differ_from l.step (answer_from (machine_in l.one) (g.S.State.at l.g) (drop l.step (word_at l.words l.word))) (answer_from (machine_in l.other) (g.T.State.at l.u) (drop l.step (word_at l.words l.word)));
}
