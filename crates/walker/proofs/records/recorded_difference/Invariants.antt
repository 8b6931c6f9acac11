use Rattle.std.proofs.Common.{◌≡◌, ◌<◌, drop, get_or}
use Rattle.rules.specs.Machines.{answer, answer_from}
use Rattle.reader.specs.Places.{word_at, after_word, outputs_at}
use Rattle.walker.specs.Machines.{machine_in}
use Rattle.walker.specs.Walks.{differ_at}
use Rattle.walker.proofs.Steps.{differ_from}
use Rattle.walker.proofs.records.recorded_difference.Given as goal

abbrev pub invariant-loop-step : goal.invariant-loop-step
invariant-loop-step l = record {
  inside : l.state.0 < l.golden.states;
  so_far : differ_at (answer (machine_in l.golden) (word_at l.sheet l.place)) (outputs_at l.sheet (after_word l.sheet l.place) (get_or l.sheet l.place 0)) ≡ differ_from l.step (answer_from (machine_in l.golden) l.state.0 (drop l.step (word_at l.sheet l.place))) (drop l.step (outputs_at l.sheet (after_word l.sheet l.place) (get_or l.sheet l.place 0)));
}
