-- Numbers below a bound that have a property which can be decided: searching them, counting them, and what follows from the
-- counts. A part with as many numbers is the whole; where each of n numbers is given one of them, no two the same, there are
-- at least n; a bounded sequence stops growing.
use Rattle.std.specs.Prelude.{◌≡◌, refl, ◌≢◌, ◌⊎◌, ℕ, zero, suc, ◌+◌, ◌≤◌, ◌<◌}
use Rattle.std.proofs.Common.{inl, inr, arith}
use Rattle.std.proofs.Math.Logic.Dec
use Rattle.std.proofs.Math.Decide.{dec_le, ℕ_discrete}

-- What holds below `u`, and of `u`, holds below `suc u`.
below_suc : {P : ℕ → Type 0} (u : ℕ) → ((q : ℕ) → q < u → P q) → P u → (q : ℕ) → q < suc u → P q
below_suc u below last q h = elim (ℕ_discrete q u) [ yes e ↦ rw e last | no ne ↦ below q (omega arith) ]

-- `p` is the least number that has the property.
abbrev pub Least : (ℕ → Type 0) → ℕ → Type 0
Least P p = P p × ((q : ℕ) → q < p → ¬ P q)

-- No number below `u` has the property, or there is a least one that has it.
least_below : {P : ℕ → Type 0} → ((q : ℕ) → Dec (P q)) → (u : ℕ) → ((q : ℕ) → q < u → ¬ P q) ⊎ ((p : ℕ) × (p < u) × Least P p)
least_below dec zero = inl (λ q h. absurd (omega arith))
least_below dec (suc u) =
    elim (least_below dec u) [
      | inr (p, h, found) ↦ inr (p, omega arith, found)
      | inl none ↦ elim (dec u) [ yes has ↦ inr (u, omega arith, (has, none)) | no np ↦ inl (below_suc u none np) ]
    ]

-- Whether some number below `u` has the property.
pub some_below : {P : ℕ → Type 0} → ((q : ℕ) → Dec (P q)) → (u : ℕ) → Dec ((q : ℕ) × (q < u) × P q)
some_below dec u =
    elim (least_below dec u) [
      | inl none ↦ no (λ (q, h, has). none q h has)
      | inr (p, h, (has, none)) ↦ yes (p, h, has)
    ]

-- A number that has the property has the least such number at or below it.
pub least : {P : ℕ → Type 0} → ((q : ℕ) → Dec (P q)) → (q : ℕ) → P q → (p : ℕ) × (p ≤ q) × Least P p
least dec q has =
    elim (least_below dec q) [
      | inl none ↦ (q, omega arith, (has, none))
      | inr (p, h, found) ↦ (p, omega arith, found)
    ]

-- One more, if the decision is yes.
abbrev pub tick : {A : Type 0} → Dec A → ℕ → ℕ
tick (yes a) x = suc x
tick (no h) x = x

-- How many numbers below `u` have the property.
abbrev pub count : {P : ℕ → Type 0} → ((q : ℕ) → Dec (P q)) → ℕ → ℕ
count dec zero = zero
count dec (suc u) = tick (dec u) (count dec u)

-- There are no more of them than numbers below `u`.
pub count-≤ : {P : ℕ → Type 0} (dec : (q : ℕ) → Dec (P q)) (u : ℕ) → count dec u ≤ u
count-≤ dec zero = omega arith
count-≤ dec (suc u) =
    let below = count-≤ dec u in
    elim (dec u) as (λ d. tick d (count dec u) ≤ suc u) [ yes p ↦ omega arith | no np ↦ omega arith ]

tick_mono : {A B : Type 0} (a : Dec A) (b : Dec B) {x y : ℕ} → (A → B) → x ≤ y → tick a x ≤ tick b y
tick_mono (yes a) (yes b) sub le = omega arith
tick_mono (yes a) (no nb) sub le = absurd (nb (sub a))
tick_mono (no na) (yes b) sub le = omega arith
tick_mono (no na) (no nb) sub le = le

-- Of a part and a whole.
module _ {P Q : ℕ → Type 0} (dec_p : (q : ℕ) → Dec (P q)) (dec_q : (q : ℕ) → Dec (Q q)) (sub : (q : ℕ) → P q → Q q) where
  count_mono : (u : ℕ) → count dec_p u ≤ count dec_q u
  count_mono zero = omega arith
  count_mono (suc u) = tick_mono (dec_p u) (dec_q u) (sub u) (count_mono u)

  -- Where the part lacks an element, its count is smaller.
  pub count_less : (a : ℕ) → ¬ P a → Q a → (u : ℕ) → a < u → count dec_p u < count dec_q u
  count_less a lacks has zero h = absurd (omega arith)
  count_less a lacks has (suc u) h = step (dec_p u) (dec_q u) (count_less a lacks has u)
    where
      step : (p : Dec (P u)) (q : Dec (Q u)) → (a < u → count dec_p u < count dec_q u) → tick p (count dec_p u) < tick q (count dec_q u)
      step (yes p) (yes q) less = let other : a ≢ u = λ e. lacks (rw e p) in omega (arith, less (omega arith))
      step (yes p) (no nq) less = absurd (nq (sub u p))
      step (no np) (yes q) less = omega (arith, count_mono u)
      step (no np) (no nq) less = let other : a ≢ u = λ e. nq (rw e at has) in less (omega arith)

  -- A part with as many elements is the whole.
  pub count_whole : (u : ℕ) → count dec_q u ≤ count dec_p u → (q : ℕ) → q < u → Q q → P q
  count_whole u le q h has = elim (dec_p q) [ yes p ↦ p | no np ↦ absurd (omega (arith, count_less q np has u h)) ]

-- The property, but not of the number `a`.
without : {P : ℕ → Type 0} → ((q : ℕ) → Dec (P q)) → (a q : ℕ) → Dec (P q × (q ≢ a))
without dec a q = Dec.and (dec q) (Dec.not (ℕ_discrete q a))

-- At least `n` numbers below `u` have the property, if `f` gives one for each number below `n` and no two the same.
pub pigeonhole : {P : ℕ → Type 0} (dec : (q : ℕ) → Dec (P q)) (u n : ℕ) (f : (i : ℕ) → i < n → ℕ)
    → ((i : ℕ) (h : i < n) → f i h < u)
    → ((i : ℕ) (h : i < n) → P (f i h))
    → ((i j : ℕ) (h : i < n) (k : j < n) → f i h ≡ f j k → i ≡ j)
    → n ≤ count dec u
pigeonhole {P = P} dec u zero f small has inj = omega arith
pigeonhole {P = P} dec u (suc n) f small has inj =
    let last : n < suc n = omega arith in
    let up : (i : ℕ) → i < n → i < suc n = λ i h. omega arith in
    let others : n ≤ count (without dec (f n last)) u =
    pigeonhole {P = λ q. P q × (q ≢ f n last)} (without dec (f n last)) u n (λ i h. f i (up i h)) (λ i h. small i (up i h))
    (λ i h. (has i (up i h), λ e. omega (arith, inj i n (up i h) last e)))
    (λ i j h k. inj i j (up i h) (up j k)) in
    omega (arith, count_less (without dec (f n last)) dec (λ q p. p.0) (f n last) (λ p. p.1 refl) (has n last) u (small n last))

-- A number that has the property is counted.
pub count_some : {P : ℕ → Type 0} (dec : (q : ℕ) → Dec (P q)) (u q : ℕ) → q < u → P q → 0 < count dec u
count_some dec u q h p = pigeonhole dec u 1 (λ i hi. q) (λ i hi. h) (λ i hi. p) (λ i j hi hj e. omega arith)

-- If the numbers below `n` have it, there are `n` of them at least.
pub count_all : {P : ℕ → Type 0} (dec : (q : ℕ) → Dec (P q)) (u n : ℕ) → n ≤ u → ((q : ℕ) → q < n → P q) → n ≤ count dec u
count_all dec u n le has = pigeonhole dec u n (λ i h. i) (λ i h. omega arith) has (λ i j hi hj e. e)

-- If none below `u` has it, there are none.
pub count_none : {P : ℕ → Type 0} (dec : (q : ℕ) → Dec (P q)) (u : ℕ) → ((q : ℕ) → q < u → ¬ P q) → count dec u ≤ 0
count_none dec zero none = omega arith
count_none dec (suc u) none =
    let below = count_none dec u (λ q h. none q (omega arith)) in
    elim (dec u) as (λ d. tick d (count dec u) ≤ 0) [ yes p ↦ absurd (none u (omega arith) p) | no np ↦ below ]

-- Those that have one property and those that have another, none both, are at most all.
pub count_both : {P Q : ℕ → Type 0} (dec_p : (q : ℕ) → Dec (P q)) (dec_q : (q : ℕ) → Dec (Q q)) → ((q : ℕ) → P q → Q q → ⊥) → (u : ℕ) → count dec_p u + count dec_q u ≤ u
count_both dec_p dec_q apart zero = omega arith
count_both dec_p dec_q apart (suc u) = step (dec_p u) (dec_q u) (apart u) (count_both dec_p dec_q apart u)
  where
    step : {A B : Type 0} (p : Dec A) (q : Dec B) → (A → B → ⊥) → count dec_p u + count dec_q u ≤ u → tick p (count dec_p u) + tick q (count dec_q u) ≤ suc u
    step (yes p) (yes q) clash le = absurd (clash p q)
    step (yes p) (no nq) clash le = omega arith
    step (no np) (yes q) clash le = omega arith
    step (no np) (no nq) clash le = omega arith

-- Where what has one property and is not `a` has another, at most one more has the first.
pub count_but_one : {P Q : ℕ → Type 0} (dec_p : (q : ℕ) → Dec (P q)) (dec_q : (q : ℕ) → Dec (Q q)) (a : ℕ) → ((q : ℕ) → P q → q ≢ a → Q q)
    → (u : ℕ) → count dec_p u ≤ suc (count dec_q u)
count_but_one dec_p dec_q a sub u =
    elim (dec_p a) [
      | no lacks ↦ omega (arith, count_mono dec_p dec_q (λ q has. sub q has (λ e. lacks (rw e at has))) u)
      | yes has ↦ one_more u
    ]
  where
    low : (u : ℕ) → u ≤ a → count dec_p u ≤ count dec_q u
    low zero le = omega arith
    low (suc u) le = tick_mono (dec_p u) (dec_q u) (λ has. sub u has (λ e. omega arith)) (low u (omega arith))

    one_more : (u : ℕ) → count dec_p u ≤ suc (count dec_q u)
    one_more zero = omega arith
    one_more (suc u) =
        elim (ℕ_discrete u a) [
          | yes e ↦ last (dec_p u) (dec_q u) (low u (omega arith))
          | no ne ↦ tick-suc (dec_p u) (dec_q u) (λ has. sub u has ne) (one_more u)
        ]
      where
        last : {A B : Type 0} (p : Dec A) (q : Dec B) → count dec_p u ≤ count dec_q u → tick p (count dec_p u) ≤ suc (tick q (count dec_q u))
        last (yes p) (yes q) le = omega arith
        last (yes p) (no nq) le = omega arith
        last (no np) (yes q) le = omega arith
        last (no np) (no nq) le = omega arith

        tick-suc : {A B : Type 0} (p : Dec A) (q : Dec B) → (A → B) → count dec_p u ≤ suc (count dec_q u) → tick p (count dec_p u) ≤ suc (tick q (count dec_q u))
        tick-suc (yes p) (yes q) f le = omega arith
        tick-suc (yes p) (no nq) f le = absurd (nq (f p))
        tick-suc (no np) (yes q) f le = omega arith
        tick-suc (no np) (no nq) f le = omega arith

-- A sequence stalls before the step `d`, or has grown by `d` there.
pub stall_or_grow : (f : ℕ → ℕ) (d : ℕ) → ((i : ℕ) × (i < d) × (f (suc i) ≤ f i)) ⊎ (f 0 + d ≤ f d)
stall_or_grow f zero = inr (omega arith)
stall_or_grow f (suc d) =
    elim (stall_or_grow f d) [
      | inl (i, h, stall) ↦ inl (i, omega arith, stall)
      | inr grown ↦ elim (dec_le (f (suc d)) (f d)) [ yes stall ↦ inl (d, omega arith, stall) | no grows ↦ inr (omega arith) ]
    ]
