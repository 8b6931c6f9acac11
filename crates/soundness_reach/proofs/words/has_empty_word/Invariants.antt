use Rattle.std.proofs.Common.{◌≡◌, ◌-◌, []}
use Rattle.rules.specs.Words.{is_in}
use Rattle.reader.specs.Places.{words_at, WordsAt}
use Rattle.soundness_reach.proofs.words.has_empty_word.Given as goal

abbrev pub invariant-loop : goal.invariant-loop
invariant-loop l = record {
  stand : WordsAt l.bytes l.word l.inputs (l.count - l.counter);
  same : is_in [] (words_at l.bytes l.place l.count) ≡ is_in [] (words_at l.bytes l.word (l.count - l.counter));
}
