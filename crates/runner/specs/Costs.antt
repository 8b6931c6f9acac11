-- The sum that cost answers (document 01, "Operations and answers", Cost).
use Rattle.std.specs.Prelude.{ℕ, List, map, length}
use Rattle.rules.specs.Lists.{sum}
use Rattle.rules.specs.Words.{Word}

unfoldable pub lengths : List Word → ℕ
lengths ws = sum (map (λ (t : Word). length t) ws)
