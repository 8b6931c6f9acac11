-- The marks of the pairs that have been met (document 01, "Marks for all 4,096 pairs of states stand in one fixed table").
use Rattle.std.specs.Prelude.{ℕ, zero, suc, ◌+◌, ◌≡◌, List, Bool, cond, not, eqb, length, get_or, set, replicate}
use Rattle.comparer_pairs.specs.Pairs.{pairs}

-- a table of marks, one for each pair
abbrev pub MarkTable : List ℕ → Type 0
MarkTable marks = length marks ≡ pairs

unfoldable pub unmarked : List ℕ
unmarked = replicate pairs 0

unfoldable pub met : List ℕ → ℕ → Bool
met marks p = not (eqb (get_or marks p 0) 0)

unfoldable pub with_mark : List ℕ → ℕ → List ℕ
with_mark marks p = set marks p 1

-- how many of the first n pairs have not been met
unfoldable pub unmet : List ℕ → ℕ → ℕ
unmet marks zero = 0
unmet marks (suc n) = cond (met marks n) 0 1 + unmet marks n
