use Rattle.std.proofs.Common.{◌≡◌, ◌-◌}
use Rattle.rules.specs.Lists.{◌∈◌, all}
use Rattle.rules.specs.Words.{Word}
use Rattle.reader.specs.Places.{words_at, WordsAt}
use Rattle.soundness_apart.specs.Separating.{golden_at, separators_at, alike_on}
use Rattle.soundness_apart.proofs.find_telling.Given as goal

abbrev pub invariant-loop : goal.invariant-loop
invariant-loop l = record {
  stand : WordsAt l.bytes l.word l.x.inputs (l.x.separators - l.counter);
  members : (v : Word) → v ∈ words_at l.bytes l.word (l.x.separators - l.counter) → v ∈ separators_at l.bytes l.x;
  same : all (alike_on (golden_at l.bytes l.x) l.p.0 l.q.0) (separators_at l.bytes l.x) ≡ all (alike_on (golden_at l.bytes l.x) l.p.0 l.q.0) (words_at l.bytes l.word (l.x.separators - l.counter));
}
