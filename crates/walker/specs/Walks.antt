-- What a walk over a word says: where two answers differ (document 01, "Operations and answers", Run and Judge).
use Rattle.std.specs.Prelude.{ℕ, ◌≤◌, List, Option, Some, None, cond, length}
use Rattle.rules.specs.Words.{same}
use Rattle.rules.specs.Operations.{first_difference}
use Rattle.reader.specs.Places.{after_word}

-- the first step, from 0, at which two answers differ
unfoldable pub differ_at : List ℕ → List ℕ → Option ℕ
differ_at a b = cond (same a b) None (Some (first_difference a b))

-- the word whose length byte stands at p is whole
abbrev pub Whole : List ℕ → ℕ → Type 0
Whole s p = after_word s p ≤ length s
