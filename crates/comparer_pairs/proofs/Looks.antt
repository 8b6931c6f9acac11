-- Laws of pairs: what is seen of an input at a pair.
use Prim.Native.Nat.{ℕ}
use native.Mathlib.Omega.{arith}
use mathlib.Core.Path.{◌≡◌, sym, ◌∙◌}
use mathlib.Core.Logic.{◌≢◌, inl, inr}
use mathlib.Core.Bool.{Bool, true, false, not}
use borrow.Author.Tests.{not-true, not-false, eq-eqb, eqb-true}
use lib.Dec.{eqb}
use Rattle.rules.specs.Machines.{Machine}
use Rattle.theory.specs.Lists.{outcome}
use Rattle.std.specs.Prelude.{Option, Some, None}
use Rattle.comparer_pairs.specs.Pairs.{pair_of, golden_of, unit_of, golden_says, unit_says, next_pair, look_at}

module _ (G U : Machine) (p i : ℕ) where
  -- T and V are the machines as they were looked up
  module _ (T V : Machine) (golden_is : T ≡ G) (unit_is : V ≡ U) (g u x : ℕ) (b : Bool) (golden : g ≡ golden_of p) (unit : u ≡ unit_of p) (input : x ≡ i)
      (says : b ≡ eqb (T.output g x) (V.output u x)) where
    agreed : b ≡ eqb (golden_says G p i) (unit_says U p i)
    agreed = says ∙ rw (golden_is, unit_is, golden, unit, input)

    pub look_apart : not b ≡ true → None ≡ look_at G U p i
    unfolding look_at
    look_apart differ = rw (sym agreed ∙ not-true b differ)

    pub look_next : not b ≡ false → (q r n : ℕ) → q ≡ T.next g x → r ≡ V.next u x → n ≡ pair_of q r → Some n ≡ look_at G U p i
    unfolding look_at next_pair
    look_next same q r n next unext is = rw (sym agreed ∙ not-false b same, is, next, unext, golden_is, unit_is, golden, unit, input)

  -- what was seen says whether the outputs differ, and which pair is next
  module _ (r : Option ℕ) (e : r ≡ look_at G U p i) where
    pub seen_apart : r ≡ None → golden_says G p i ≢ unit_says U p i
    unfolding look_at
    seen_apart is same =
        let z : Some (next_pair G U p i) ≡ None = rw (eq-eqb _ _ same) at (sym e ∙ is) in
        let no : ◌≡◌ {A = ℕ} 0 1 = cc in
        omega arith

    pub seen_next : (n : ℕ) → r ≡ Some n → (golden_says G p i ≡ unit_says U p i) × (n ≡ next_pair G U p i)
    unfolding look_at
    seen_next n is =
        elim (outcome (eqb (golden_says G p i) (unit_says U p i))) [
          | inl same ↦ (eqb-true _ _ same, let z : Some (next_pair G U p i) ≡ Some n = rw same at (sym e ∙ is) in cc)
          | inr other ↦ let z : None ≡ Some n = rw other at (sym e ∙ is) in let no : ◌≡◌ {A = ℕ} 0 1 = cc in absurd (omega arith)
        ]
