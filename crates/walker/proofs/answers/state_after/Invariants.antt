use Rattle.std.proofs.Common.{◌≡◌, ◌<◌, drop}
use Rattle.rules.specs.Machines.{after}
use Rattle.reader.specs.Places.{word_at}
use Rattle.walker.specs.Machines.{machine_in}
use Rattle.walker.proofs.answers.state_after.Given as goal

abbrev pub invariant-loop-step : goal.invariant-loop-step
invariant-loop-step g l = record {
  inside : g.S.State.at l.state < l.table.states;
  leads : after (machine_in l.table) (g.S.State.at l.fn.start) (word_at l.words l.word) ≡ after (machine_in l.table) (g.S.State.at l.state) (drop l.step (word_at l.words l.word));
}
