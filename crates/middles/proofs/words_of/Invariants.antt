use Rattle.std.proofs.Common.{◌≡◌, ◌<◌, ◌≤◌, length}
use Rattle.rules.specs.Words.{words_of}
use Rattle.middles.proofs.words_of.Given as goal

-- `words` is how many words have as many inputs as turns were taken
abbrev pub invariant-loop : goal.invariant-loop
invariant-loop l = (l.words ≡ length (words_of l.inputs l.counter)) × (0 < l.words) × (l.words ≤ 1048576)
