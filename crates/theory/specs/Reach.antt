-- The counting lemma: of u states, of which all but d are starting states, d steps reach whatever any number of steps reaches.
-- It is about numbers and a `next` of them, and about no machine.
use Rattle.std.specs.Prelude.{◌≡◌, refl, ◌⊎◌, ℕ, zero, suc, ◌+◌, ◌≤◌, ◌<◌}
use Rattle.std.proofs.Math.Logic.{inl, inr}
use Rattle.std.proofs.Math.Logic.Dec
use Rattle.std.proofs.Common.{⊎_elim}
use Rattle.std.proofs.Math.Decide.{ℕ_discrete}
use native.Mathlib.Omega.{arith}
use Rattle.theory.specs.Count.{count, count-≤, count_whole, some_below, stall_or_grow}

-- `q` is one step, by an input below `k`, from a state below `u` of which `R` holds.
abbrev pub Stepped : (u k : ℕ) (next : ℕ → ℕ → ℕ) (R : ℕ → Type 0) → ℕ → Type 0
Stepped u k next R q = (p : ℕ) × (p < u) × ((a : ℕ) × (a < k) × (R p × (next p a ≡ q)))

-- `q` is at most `i` steps from a starting state.
abbrev pub Within : (u k : ℕ) (next : ℕ → ℕ → ℕ) (Start : ℕ → Type 0) → ℕ → ℕ → Type 0
Within u k next Start zero q = Start q
Within u k next Start (suc i) q = Within u k next Start i q ⊎ Stepped u k next (Within u k next Start i) q

-- What is reached by few steps is reached by more.
pub within_more : (u k : ℕ) (next : ℕ → ℕ → ℕ) (Start : ℕ → Type 0) (d i q : ℕ) → i ≤ d → Within u k next Start i q → Within u k next Start d q
within_more u k next Start zero zero q le r = r
within_more u k next Start zero (suc i) q le r = absurd (omega arith)
within_more u k next Start (suc d) zero q le r = inl (within_more u k next Start d zero q (omega arith) r)
within_more u k next Start (suc d) (suc i) q le (inl r) = inl (within_more u k next Start d i q (omega arith) r)
within_more u k next Start (suc d) (suc i) q le (inr (p, h, (a, b, (r, e)))) =
    inr (p, h, (a, b, (within_more u k next Start d i p (omega arith) r, e)))

-- Whether one of two things holds.
either : {A B : Type 0} → Dec A → Dec B → Dec (A ⊎ B)
either (yes a) _ = yes (inl a)
either (no na) (yes b) = yes (inr b)
either (no na) (no nb) = no (⊎_elim na nb)

module _ (u k : ℕ) (next : ℕ → ℕ → ℕ) (next_small : (q a : ℕ) → q < u → a < k → next q a < u)
    (Start : ℕ → Type 0) (start? : (q : ℕ) → Dec (Start q)) (start_small : (q : ℕ) → Start q → q < u) where
  abbrev R : ℕ → ℕ → Type 0
  R = Within u k next Start

  within? : (i q : ℕ) → Dec (R i q)
  within? zero q = start? q
  within? (suc i) q = either (within? i q) (some_below (λ p. some_below (λ a. Dec.and (within? i p) (ℕ_discrete (next p a) q)) k) u)

  within_small : (i q : ℕ) → R i q → q < u
  within_small zero q r = start_small q r
  within_small (suc i) q (inl r) = within_small i q r
  within_small (suc i) q (inr (p, h, (a, b, (r, e)))) = rw (← e) (next_small p a h b)

  -- One step more reaches no more states.
  abbrev Stalled : ℕ → Type 0
  Stalled i = count (within? (suc i)) u ≤ count (within? i) u

  stalled : (d : ℕ) → u ≤ count start? u + d → (i : ℕ) × (i ≤ d) × Stalled i
  unfolding within?
  stalled d many =
      elim (stall_or_grow (λ i. count (within? i) u) (suc d)) [
        | inl (i, h, s) ↦ (i, omega arith, s)
        | inr grown ↦ absurd (omega (arith, count-≤ (within? (suc d)) u))
      ]

  -- Where one step more reaches no more states, no more steps do.
  within_stalled : (i : ℕ) → Stalled i → (j q : ℕ) → R j q → R i q
  within_stalled i s zero q r = within_more u k next Start i zero q (omega arith) r
  within_stalled i s (suc j) q (inl r) = within_stalled i s j q r
  within_stalled i s (suc j) q (inr (p, h, (a, b, (r, e)))) =
      let again : R (suc i) q = inr (p, h, (a, b, (within_stalled i s j p r, e))) in
      count_whole (within? i) (within? (suc i)) (λ q. inl) u s q (within_small (suc i) q again) again

  -- Where all but `d` states are starting states, the states within `d` steps are closed under inputs.
  pub within_closed : (d : ℕ) → u ≤ count start? u + d → (q a : ℕ) → a < k → R d q → R d (next q a)
  within_closed d many q a b r =
      let (i, h, s) = stalled d many in
      let more : R (suc d) (next q a) = inr (q, within_small d q r, (a, b, (r, refl))) in
      within_more u k next Start d i (next q a) h (within_stalled i s (suc d) (next q a) more)
