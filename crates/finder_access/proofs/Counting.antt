-- Laws of how many states have a place: none at first, and one more with each that is put.
use Prim.Native.Nat.{ℕ, zero, suc, ◌+◌, ◌≤◌, ◌<◌}
use native.Mathlib.Omega.{arith}
use native.Mathlib.Decide.{ℕ_discrete}
use mathlib.Core.Path.{◌≡◌, refl, ap}
use mathlib.Core.List.Memᴰ
use mathlib.Core.List.{List, [], ◌∷◌}
use mathlib.Core.Bool.{Bool, true, false, cond}
use borrow.Author.Tests.{ne_eqb}
use lib.ListN.{length, get_or, set, get_or-replicate}
use lib.Seq.{get_or-set_same, get_or-set_other}
use Rattle.rules.specs.Sizes.{most_states}
use Rattle.rules.specs.Lists.{◌∈◌, numbers_from, keep}
use Rattle.finder_access.specs.Queue.{unplaced, has_place}

-- how many of n states from the state i on have a place
abbrev placed_from : List ℕ → ℕ → ℕ → ℕ
placed_from places i n = length (keep (has_place places) (numbers_from i n))

abbrev tick : Bool → ℕ
tick true = 1
tick false = 0

kept : {A : Type 0} (b : Bool) (x : A) (l : List A) → length (cond b (x ∷ l) l) ≡ tick b + length l
kept true x l = omega arith
kept false x l = omega arith

placed_next : (places : List ℕ) (i n : ℕ) → placed_from places i (suc n) ≡ tick (has_place places i) + placed_from places (suc i) n
placed_next places i n = kept (has_place places i) i (keep (has_place places) (numbers_from (suc i) n))

other_place : (places : List ℕ) (p v q : ℕ) → ¬ (q ≡ p) → has_place (set places p v) q ≡ has_place places q
unfolding has_place
other_place places p v q ne = rw (get_or-set_other places p q v 0 ne)

-- a state before them makes no difference
placed_same : (places : List ℕ) (p v i n : ℕ) → p < i → placed_from (set places p v) i n ≡ placed_from places i n
placed_same places p v i zero less = refl
placed_same places p v i (suc n) less =
    let rest = placed_same places p v (suc i) n (omega arith) in
    let here = ap tick (other_place places p v i (λ e. omega arith)) in
    omega (arith, placed_next (set places p v) i n, placed_next places i n)

-- one of them is put
placed_more : (places : List ℕ) (p v i n : ℕ) → p < length places → get_or places p 0 ≡ 0 → i ≤ p → p < i + n
    → placed_from (set places p (suc v)) i n ≡ suc (placed_from places i n)
unfolding has_place
placed_more places p v i zero inside new low high = absurd (omega arith)
placed_more places p v i (suc n) inside new low high =
    elim (ℕ_discrete i p) [
      | yes e ↦
          let old : tick (has_place places i) ≡ 0 = rw (e, new) in
          let put : tick (has_place (set places p (suc v)) i) ≡ 1 = rw (e, get_or-set_same places p (suc v) 0 inside, ne_eqb (suc v) 0 (λ z. omega arith)) in
          let rest = placed_same places p (suc v) (suc i) n (omega arith) in
          omega (arith, placed_next (set places p (suc v)) i n, placed_next places i n)
      | no ne ↦
          let here = ap tick (other_place places p (suc v) i ne) in
          let rest = placed_more places p v (suc i) n inside new (omega arith) (omega arith) in
          omega (arith, placed_next (set places p (suc v)) i n, placed_next places i n)
    ]

none_placed : (i n : ℕ) → i + n ≤ most_states → placed_from unplaced i n ≡ 0
unfolding unplaced has_place
none_placed i zero few = refl
none_placed i (suc n) few =
    let here : tick (has_place unplaced i) ≡ 0 = rw (get_or-replicate {A = ℕ} most_states i 0 0 (omega arith)) in
    let rest = none_placed (suc i) n (omega arith) in
    omega (arith, placed_next unplaced i n)

pub keep_same : {A : Type 0} (f g : A → Bool) (l : List A) → ((x : A) → x ∈ l → f x ≡ g x) → keep f l ≡ keep g l
keep_same f g [] h = refl
keep_same f g (x ∷ l) h = rw (h x (Memᴰ.head refl), keep_same f g l (λ y m. h y (Memᴰ.tail m)))

pub count_none : (n : ℕ) → n ≤ most_states → placed_from unplaced 0 n ≡ 0
count_none n few = none_placed 0 n (omega arith)

pub count_more : (places : List ℕ) (p v n : ℕ) → p < length places → get_or places p 0 ≡ 0 → p < n → placed_from (set places p (v + 1)) 0 n ≡ placed_from places 0 n + 1
count_more places p v n inside new less =
    let one : v + 1 ≡ suc v = omega arith in
    let more = placed_more places p v 0 n inside new (omega arith) (omega arith) in
    rw one (omega arith)
