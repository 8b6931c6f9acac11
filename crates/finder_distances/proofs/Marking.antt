-- Laws of the table of distances.
use Prim.Native.Nat.{ℕ, ◌<◌}
use native.Mathlib.Omega.{arith}
use mathlib.Core.Path.{◌≡◌, ◌∙◌}
use mathlib.Core.Logic.{◌≢◌}
use mathlib.Core.List.{List}
use lib.ListN.{length, set, length-set, length-replicate, get_or-replicate}
use lib.Seq.{get_or-set_same, get_or-set_other}
use Rattle.rules.specs.Sizes.{most_states}
use Rattle.finder_distances.specs.Marks.{places, place_of, unmarked, mark_of, with_mark, MarkTable}

pub unmarked_table : MarkTable unmarked
unfolding unmarked
unmarked_table = record { size = length-replicate {A = ℕ} places 0 }

pub unmarked_none : (p q : ℕ) → p < most_states → q < most_states → mark_of unmarked p q ≡ 0
unfolding unmarked mark_of
unmarked_none p q hp hq = get_or-replicate {A = ℕ} places (place_of p q) 0 0 (omega arith)

module _ (m : List ℕ) (table : MarkTable m) (p q x : ℕ) (state_p : p < most_states) (state_q : q < most_states) where
  pub with_table : MarkTable (with_mark m p q x)
  unfolding with_mark
  with_table = record { size = simp length-set table.size }

  inside : (a b : ℕ) → a < most_states → b < most_states → (y : ℕ) → place_of a b < length (set m (place_of p q) y)
  inside a b ha hb y = simp length-set (omega (arith, table.size))

  -- the entry of the two states is the new one, both ways round, and any other stays
  pub with_mirrored : mark_of (with_mark m p q x) q p ≡ x
  unfolding with_mark mark_of
  with_mirrored = get_or-set_same (set m (place_of p q) x) (place_of q p) x 0 (inside q p state_q state_p x)

  pub with_here : p < q → mark_of (with_mark m p q x) p q ≡ x
  unfolding with_mark mark_of
  with_here less =
      get_or-set_other (set m (place_of p q) x) (place_of q p) (place_of p q) x 0 (λ e. omega arith)
      ∙ get_or-set_same m (place_of p q) x 0 (omega (arith, table.size))

  pub with_other : (a b : ℕ) → place_of a b ≢ place_of p q → place_of a b ≢ place_of q p → mark_of (with_mark m p q x) a b ≡ mark_of m a b
  unfolding with_mark mark_of
  with_other a b one other = get_or-set_other (set m (place_of p q) x) (place_of q p) (place_of a b) x 0 other ∙ get_or-set_other m (place_of p q) (place_of a b) x 0 one
