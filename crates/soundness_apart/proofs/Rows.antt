-- Laws of the search for the lowest pair, row by row.
use Prim.Native.Nat.{ℕ, suc, ◌+◌, ◌-◌, ◌≤◌, ◌<◌}
use native.Mathlib.Omega.{arith}
use native.Mathlib.Numerals.{add-one}
use mathlib.Core.Path.{◌≡◌, refl, sym, ap}
use mathlib.Core.Logic.{inl, inr}
use mathlib.Core.List.{List, [], ◌∷◌, ◌++◌, map, flat_map}
use mathlib.Core.Bool.{Bool}
use mathlib.Core.Option.{Option, none, some}
use Rattle.rules.specs.declared.GoldenState.{GoldenState}
use Rattle.rules.specs.Lists.{first, numbers_from}
use Rattle.rules.specs.Needed.{pairs}
use Rattle.theory.specs.Lists.{outcome, none_not_some, some_injective, first_left, first_right}
use Rattle.std.specs.Prelude.{Some}
use Rattle.soundness_apart.specs.Separating.{pair_found}

-- a row of pairs: the search for the second number
row_some : (test : ℕ × ℕ → Bool) (p : ℕ) (l : List ℕ) {q : ℕ} → first (λ q. test (p, q)) l ≡ some q → first test (map (λ q. (p, q)) l) ≡ some (p, q)
row_some test p [] e = none_not_some e
row_some test p (a ∷ l) e =
    elim (outcome (test (p, a))) [
      | inl is ↦ rw is (ap (λ (q : ℕ). some (p, q)) (some_injective (rw is at e)))
      | inr is ↦ rw is (row_some test p l (rw is at e))
    ]

row_none : (test : ℕ × ℕ → Bool) (p : ℕ) (l : List ℕ) → first (λ q. test (p, q)) l ≡ none → first test (map (λ q. (p, q)) l) ≡ none
row_none test p [] e = refl
row_none test p (a ∷ l) e =
    elim (outcome (test (p, a))) [
      | inl is ↦ none_not_some (sym (rw is at e))
      | inr is ↦ rw is (row_none test p l (rw is at e))
    ]

-- the pairs whose first number is at least p
abbrev pub rows_from : ℕ → ℕ → List (ℕ × ℕ)
rows_from n p = flat_map (λ p. map (λ q. (p, q)) (numbers_from (suc p) (n - suc p))) (numbers_from p (n - p))

pub rows_start : (test : ℕ × ℕ → Bool) (n : ℕ) → first test (pairs n) ≡ first test (rows_from n 0)
unfolding pairs
rows_start test n = let same : n - 0 ≡ n = omega arith in rw same

module _ (test : ℕ × ℕ → Bool) (n p : ℕ) (more : p < n) where
  split : rows_from n p ≡ map (λ q. (p, q)) (numbers_from (p + 1) (n - (p + 1))) ++ rows_from n (p + 1)
  unfolding flat_map
  split = let one_more : n - p ≡ suc (n - (p + 1)) = omega arith in rw (one_more, ← add-one p)

  pub rows_some : {q : ℕ} → first (λ q. test (p, q)) (numbers_from (p + 1) (n - (p + 1))) ≡ some q → first test (rows_from n p) ≡ some (p, q)
  rows_some e = rw split (first_left test (map (λ q. (p, q)) (numbers_from (p + 1) (n - (p + 1)))) (rows_from n (p + 1)) (row_some test p (numbers_from (p + 1) (n - (p + 1))) e))

  pub rows_none : first (λ q. test (p, q)) (numbers_from (p + 1) (n - (p + 1))) ≡ none → first test (rows_from n p) ≡ first test (rows_from n (p + 1))
  rows_none e = rw split (first_right test (map (λ q. (p, q)) (numbers_from (p + 1) (n - (p + 1)))) (rows_from n (p + 1)) (row_none test p (numbers_from (p + 1) (n - (p + 1))) e))

pub rows_end : (test : ℕ × ℕ → Bool) (n p : ℕ) → n ≤ p → first test (rows_from n p) ≡ none
unfolding flat_map
rows_end test n p h = let done : n - p ≡ 0 = omega arith in rw done

pub pair_found_lem : (x y : GoldenState) (p q : ℕ) (o : Option (ℕ × ℕ)) → x.0 ≡ p → y.0 ≡ q → o ≡ some (p, q) → Some (x, y) ≡ pair_found o
pair_found_lem x y p q o is_p is_q e = rw (e, ← is_p, ← is_q)
