use Rattle.std.proofs.Common.{◌+◌, ◌-◌, ◌≤◌, ◌≡◌}
use Rattle.reader.specs.Places.{words_at, WordsAt}
use Rattle.runner.specs.Costs.{lengths}
use Rattle.runner.proofs.costing.sum_lengths.Given as goal

abbrev pub invariant-loop : goal.invariant-loop
invariant-loop l =
    record {
      stand : WordsAt l.bytes l.word l.inputs (l.count - l.counter);
      small : l.sum ≤ l.word;
      so_far : lengths (words_at l.bytes l.place l.count) ≡ l.sum + lengths (words_at l.bytes l.word (l.count - l.counter));
    }
