-- Laws of the marks: a new mark is the only change, and one pair fewer is unmet. What these laws say of `met`, `with_mark` and
-- `unmarked` is all that the search knows of them.
use Prim.Native.Nat.{ℕ, zero, suc, ◌≤◌, ◌<◌}
use native.Mathlib.Omega.{arith}
use native.Mathlib.Decide.{ℕ_discrete}
use mathlib.Core.Path.{◌≡◌, refl}
use mathlib.Core.List.{List}
use mathlib.Core.Bool.{true, false}
use lib.ListN.{length, length-set, get_or-replicate, length-replicate}
use lib.Seq.{get_or-set_same, get_or-set_other}
use Rattle.comparer_pairs.specs.Pairs.{pairs}
use Rattle.comparer_pairs.specs.Marks.{MarkTable, unmarked, met, with_mark, unmet}

pub table_start : MarkTable unmarked
unfolding unmarked
table_start = length-replicate {A = ℕ} pairs 0

pub none_met : (p : ℕ) → p < pairs → met unmarked p ≡ false
unfolding unmarked met
none_met p h = rw (get_or-replicate {A = ℕ} pairs p 0 0 h)

pub table_kept : (marks : List ℕ) (p : ℕ) → MarkTable marks → MarkTable (with_mark marks p)
unfolding with_mark
table_kept marks p t = simp length-set t

met_here : (marks : List ℕ) (p : ℕ) → MarkTable marks → p < pairs → met (with_mark marks p) p ≡ true
unfolding met with_mark
met_here marks p t h = let inside : p < length marks = omega arith in rw (get_or-set_same marks p 1 0 inside)

pub met_other : (marks : List ℕ) (p q : ℕ) → ¬ (q ≡ p) → met (with_mark marks p) q ≡ met marks q
unfolding met with_mark
met_other marks p q ne = rw (get_or-set_other marks p q 1 0 ne)

-- at first nothing has been met
pub unmet_all : (n : ℕ) → n ≤ pairs → unmet unmarked n ≡ n
unfolding unmet
unmet_all zero h = refl
unmet_all (suc n) h = rw (none_met n (omega arith)) (omega (arith, unmet_all n (omega arith)))

unmet_same : (marks : List ℕ) (p n : ℕ) → n ≤ p → unmet (with_mark marks p) n ≡ unmet marks n
unfolding unmet
unmet_same marks p zero h = refl
unmet_same marks p (suc n) h = rw (met_other marks p n (λ e. omega arith), unmet_same marks p n (omega arith))

pub unmet_less : (marks : List ℕ) (p n : ℕ) → MarkTable marks → p < n → n ≤ pairs → met marks p ≡ false → unmet marks n ≡ suc (unmet (with_mark marks p) n)
unfolding unmet
unmet_less marks p zero t h few new = absurd (omega arith)
unmet_less marks p (suc n) t h few new =
    elim (ℕ_discrete n p) [
      | yes e ↦ rw (e, new, met_here marks p t (omega arith), unmet_same marks p p (omega arith)) (omega arith)
      | no ne ↦ rw (met_other marks p n ne) (omega (arith, unmet_less marks p n t (omega arith) (omega arith) new))
    ]
