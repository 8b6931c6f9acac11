-- Laws of the search for the lowest two states that have no distance.
use Prim.Native.Nat.{ℕ, ◌+◌, ◌≤◌, ◌<◌}
use native.Mathlib.Omega.{arith}
use native.Mathlib.Decide.{ℕ_discrete}
use mathlib.Core.Path.{◌≡◌, refl, sym, ap, ◌∙◌}
use mathlib.Core.Logic.{◌≢◌, inl, inr}
use mathlib.Core.List.{List}
use mathlib.Core.Option.{Option, none, some}
use borrow.Author.Tests.{eqb-false, eq-eqb, ne_eqb}
use Rattle.rules.specs.Sizes.{most_states}
use Rattle.rules.specs.Lists.{first}
use Rattle.rules.specs.Needed.{pairs}
use Rattle.rules.specs.declared.GoldenState.{GoldenState}
use Rattle.theory.specs.Lists.{first-none, least_first, none_first}
use Rattle.theory.specs.Sound.{LowerPair, lower_one_way, in_pairs, of_pairs, pairs_rising}
use Rattle.finder_distances.specs.Marks.{place_of, mark_of}
use Rattle.std.specs.Prelude.{Option as Found, Some, None}
use Rattle.soundness_apart.specs.Separating.{pair_found}
use Rattle.finder_telling.specs.Pairs.{untold_by, lowest_untold, ToldBefore, AllTold, RowOf}

module _ (n : ℕ) (m : List ℕ) where
  pub none_before : ToldBefore n m (place_of 0 0)
  none_before = record { told = λ p q two h before. absurd (omega arith) }

  module _ (few : n ≤ most_states) where
    -- before a row there is nothing but the rows before it
    pub row_start : (p q : ℕ) → q ≡ p → ToldBefore n m (place_of p 0) → ToldBefore n m (place_of p (q + 1))
    row_start p q is told = record { told = λ a b two h before. told.told a b two h (omega arith) }

    pub row_end : (p q : ℕ) → n ≤ q → ToldBefore n m (place_of p q) → RowOf n m p None
    row_end p q over told = record { told = λ a b two h before. told.told a b two h (omega arith) }

    pub told_next : (p q d : ℕ) (x : GoldenState) → p < q → q < n → x.0 ≡ q → d ≡ mark_of m p x.0 → d ≢ 0 → ToldBefore n m (place_of p q) → ToldBefore n m (place_of p (q + 1))
    told_next p q d x less state is asked some' told =
        record {
          told = λ a b two h before.
              elim (ℕ_discrete (place_of a b) (place_of p q)) [
                | yes e ↦
                    let is_a : a ≡ p = omega arith in
                    let is_b : b ≡ q = omega arith in
                    rw (is_a, is_b) (λ z. some' (asked ∙ ap (mark_of m p) is ∙ z))
                | no ne ↦ told.told a b two h (omega arith)
              ];
        }

    -- the two states that are found
    pub row_found : (p x : GoldenState) (q d : ℕ) → p.0 < q → q < n → x.0 ≡ q → d ≡ mark_of m p.0 x.0 → d ≡ 0 → ToldBefore n m (place_of p.0 q)
        → RowOf n m p.0 (Some (p, x))
    unfolding lowest_untold
    row_found p x q d less state is asked zero' told =
        let found =
        least_first LowerPair lower_one_way (untold_by m) (pairs n) (pairs_rising n)
        (record {
          found = in_pairs n p.0 x.0 (omega arith) (omega arith);
          passes = eq-eqb _ 0 (sym asked ∙ zero');
          earlier = λ (a, b) in_a lower.
              let (two, h) = of_pairs n in_a in
              ne_eqb _ 0 (told.told a b two h (elim lower [ inl first ↦ omega arith | inr (same, second) ↦ omega arith ]));
        }) in
        rw found

    pub none_found : (p : ℕ) → n ≤ p → ToldBefore n m (place_of p 0) → None ≡ pair_found (lowest_untold n m)
    unfolding lowest_untold
    none_found p over told =
        let none' = none_first (untold_by m) (pairs n) (λ (a, b) in_a. let (two, h) = of_pairs n in_a in ne_eqb _ 0 (told.told a b two h (omega arith))) in
        rw none'

  -- what a row came to
  pub row_at : (p : ℕ) (r : Found (GoldenState × GoldenState)) (a b : GoldenState) → RowOf n m p r → r ≡ Some (a, b) → Some (a, b) ≡ pair_found (lowest_untold n m)
  row_at p r a b row is = rw is at row

  pub row_nowhere : (p q : ℕ) (r : Found (GoldenState × GoldenState)) → p ≡ q → RowOf n m p r → r ≡ None → ToldBefore n m (place_of (q + 1) 0)
  row_nowhere p q r same row is = rw (← same) (rw is at row)

-- none was found: each two states have a distance
pub none-untold : (n : ℕ) (m : List ℕ) (r : Found (GoldenState × GoldenState)) → r ≡ pair_found (lowest_untold n m) → r ≡ None → AllTold n m
unfolding lowest_untold
none-untold n m r e is =
    record {
      told = λ p q two h.
          let other : mark_of m p q ≢ 0 = eqb-false _ 0 (first-none (untold_by m) (go (first (untold_by m) (pairs n)) refl) (in_pairs n p q two h)) in
          omega arith;
    }
  where
    go : (o : Option (ℕ × ℕ)) → first (untold_by m) (pairs n) ≡ o → first (untold_by m) (pairs n) ≡ none
    go none f = f
    go (some (p, q)) f = let z : ◌≡◌ {A = ℕ} 0 1 = cc (rw f at e) in absurd (omega arith)
