-- What the functions of this crate speak of besides the rules.
use Rattle.std.specs.Prelude.{ℕ, zero, suc, ◌+◌, List, ◌++◌}
use Rattle.rules.specs.Words.{Word, words_of}

-- the words of n inputs below k, and of up to `left` more: by length, then by inputs
unfoldable pub words_from : ℕ → ℕ → ℕ → List Word
words_from k n zero = words_of k n
words_from k n (suc left) = words_of k n ++ words_from k (n + 1) left
