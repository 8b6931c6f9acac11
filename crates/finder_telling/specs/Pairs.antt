-- The lowest two states that no word tells apart, as the table of distances has them.
use Rattle.std.specs.Prelude.{ℕ, ◌+◌, ◌<◌, ◌≡◌, ◌≢◌, List, Bool, eqb}
use Rattle.std.proofs.Math.Option.{Option}
use Rattle.rules.specs.Lists.{first}
use Rattle.rules.specs.Needed.{pairs}
use Rattle.finder_distances.specs.Marks.{place_of, mark_of}
use Rattle.rules.specs.declared.GoldenState.{GoldenState}
use Rattle.std.specs.Prelude.{Option as Found, Some, None}
use Rattle.soundness_apart.specs.Separating.{pair_found}

-- two states have no distance
abbrev pub untold_by : List ℕ → ℕ × ℕ → Bool
untold_by m (p, q) = eqb (mark_of m p q) 0

-- the lowest two of n states that have none
unfoldable pub lowest_untold : ℕ → List ℕ → Option (ℕ × ℕ)
lowest_untold n m = first (untold_by m) (pairs n)

-- each two of n states whose place comes before `here` have a distance
pub record ToldBefore (n : ℕ) (m : List ℕ) (here : ℕ) : Type 0 where
  pub told : (p q : ℕ) → p < q → q < n → place_of p q < here → mark_of m p q ≢ 0

-- each two of n states have a distance
pub record AllTold (n : ℕ) (m : List ℕ) : Type 0 where
  pub told : (p q : ℕ) → p < q → q < n → 0 < mark_of m p q

-- what the pairs with the first state p came to, where those before them have distances
abbrev pub RowOf : ℕ → List ℕ → ℕ → Found (GoldenState × GoldenState) → Type 0
RowOf n m p None = ToldBefore n m (place_of (p + 1) 0)
RowOf n m p (Some (a, b)) = Some (a, b) ≡ pair_found (lowest_untold n m)
