-- Laws of looking at a field byte by byte.
use Rattle.std.proofs.Common.{◌≡◌, ℕ, zero, suc, ◌<◌, List, [], ◌∷◌, Bool, true, length, get_or, refl, ap, arith}
use Rattle.std.specs.Prelude.{◌&&◌}
use Rattle.std.specs.List.{list_all}
use Rattle.rules.specs.Lists.{all}
use Rattle.theory.specs.Words.{both}

-- the iterator's `all` is the rules' one
pub all_pass : (test : ℕ → Bool) (s : List ℕ) → list_all test s ≡ all test s
all_pass test [] = refl
all_pass test (b ∷ s) = ap (λ t. test b && t) (all_pass test s)

-- each byte passes where all do
pub passes_at : (test : ℕ → Bool) (s : List ℕ) (i : ℕ) → all test s ≡ true → i < length s → test (get_or s i 0) ≡ true
passes_at test [] i passing less = absurd (omega arith)
passes_at test (b ∷ s) zero passing less = (both {a = test b} passing).0
passes_at test (b ∷ s) (suc i) passing less = passes_at test s i (both {a = test b} passing).1 (omega arith)
