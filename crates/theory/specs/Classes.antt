-- The class_counting lemma: two states of a machine that some word tells apart are told apart by a word of fewer inputs than
-- the machine has states. Count the classes of states that no word of at most i inputs tells apart: with i they rise from 1
-- to at most the number of states, so at some i below that number one input more makes no more classes, and then none ever
-- does.
use Rattle.std.specs.Prelude.{◌≡◌, refl, ◌≢◌, ◌⊎◌, ℕ, zero, suc, ◌+◌, ◌-◌, ◌≤◌, ◌<◌, length}
use Rattle.std.proofs.Common.{sym, ◌∙◌, inl, inr, arith}
use Rattle.std.proofs.Math.Logic.Dec
use mathlib.Core.List.{[], ◌∷◌, List-discrete}
use Rattle.std.proofs.Math.Decide.{ℕ_discrete, dec_le, dec_lt}
use Rattle.rules.specs.Words.{Word, Valid, shortlex}
use Rattle.rules.specs.Machines.{Machine, Complete, answer_from}
use Rattle.theory.specs.Count.{tick, count, count-≤, count_some, count_all, count_none, count_both, count_but_one, count_whole, some_below, stall_or_grow, least}
use Rattle.theory.specs.Totals.{total, total_more}
use Rattle.theory.specs.Lists.{some_in}
use Rattle.theory.specs.Shortlex.{in_shortlex}

-- The states `p` and `q` answer every word of at most `i` inputs alike.
abbrev pub Alike : ℕ → Machine → ℕ → ℕ → ℕ → Type 0
Alike k M i p q = (w : Word) → Valid k w → length w ≤ i → answer_from M p w ≡ answer_from M q w

-- A word of at most `i` inputs tells them apart.
abbrev pub ToldWithin : ℕ → Machine → ℕ → ℕ → ℕ → Type 0
ToldWithin k M i p q = (w : Word) × Valid k w × (length w ≤ i) × (answer_from M p w ≢ answer_from M q w)

-- One or the other, as there are only so many such words.
alike_or_apart : (k : ℕ) (M : Machine) (i p q : ℕ) → Alike k M i p q ⊎ ToldWithin k M i p q
alike_or_apart k M i p q =
    elim (some_in (λ w. Dec.not (same? w)) (shortlex k i)) [
      | yes (w, in_w, differ) ↦ let (v, short) = (in_shortlex k i w).0 in_w in inr (w, v, short, differ)
      | no none ↦ inl (λ w v short. elim (same? w) [ yes e ↦ e | no ne ↦ absurd (none (w, (in_shortlex k i w).1 (v, short), ne)) ])
    ]
  where
    same? : (w : Word) → Dec (answer_from M p w ≡ answer_from M q w)
    same? w = List-discrete ℕ_discrete (answer_from M p w) (answer_from M q w)

-- Whether one does.
pub told? : (k : ℕ) (M : Machine) (i p q : ℕ) → Dec (ToldWithin k M i p q)
told? k M i p q =
    elim (alike_or_apart k M i p q) [
      | inl alike ↦ no (λ (w, v, short, differ). differ (alike w v short))
      | inr apart ↦ yes apart
    ]

-- Whether they answer alike.
pub alike? : (k : ℕ) (M : Machine) (i p q : ℕ) → Dec (Alike k M i p q)
alike? k M i p q =
    elim (alike_or_apart k M i p q) [
      | inl alike ↦ yes alike
      | inr (w, v, short, differ) ↦ no (λ alike. differ (alike w v short))
    ]

module _ {k : ℕ} {M : Machine} (complete : Complete k M) where
  -- `q` represents its class: no smaller state is alike for `i` inputs.
  abbrev Rep : ℕ → ℕ → Type 0
  Rep i q = (p : ℕ) → p < q → ¬ Alike k M i p q

  -- Whether it does.
  rep? : (i q : ℕ) → Dec (Rep i q)
  rep? i q =
      elim (some_below (λ p. alike? k M i p q) q) [
        | yes (p, h, s) ↦ no (λ rep. rep p h s)
        | no none ↦ yes (λ p h s. none (p, h, s))
      ]

  -- Every state has a representative, and a class has one only.
  represented : (i q : ℕ) → (p : ℕ) × (p ≤ q) × Alike k M i p q × Rep i p
  represented i q =
      let (p, h, (s, none)) = least (λ p. alike? k M i p q) q (λ w v short. refl) in
      (p, h, s, λ o h' s'. none o h' (λ w v short. s' w v short ∙ s w v short))

  one_each : (i p q : ℕ) → Rep i p → Rep i q → Alike k M i p q → p ≡ q
  one_each i p q rep_p rep_q s =
      elim (dec_lt p q) [
        | yes less ↦ absurd (rep_q p less s)
        | no nl ↦ elim (dec_lt q p) [ yes more ↦ absurd (rep_p q more (λ w v short. sym (s w v short))) | no nm ↦ omega arith ]
      ]

  -- One input more makes no more classes.
  abbrev Stalled : ℕ → Type 0
  Stalled i = count (rep? (suc i)) M.states ≤ count (rep? i) M.states

  -- Then it tells no more states apart,
  stalled_one : (i : ℕ) → Stalled i → (p q : ℕ) → p < M.states → q < M.states → Alike k M i p q → Alike k M (suc i) p q
  stalled_one i stalled p q hp hq s =
      let whole = count_whole (rep? i) (rep? (suc i)) (λ r rep o h s. rep o h (λ w v short. s w v (omega arith))) M.states stalled in
      let (x, hx, sx, rx) = represented (suc i) p in
      let (y, hy, sy, ry) = represented (suc i) q in
      let alike : Alike k M i x y = λ w v short. sx w v (omega arith) ∙ s w v short ∙ sym (sy w v (omega arith)) in
      let e : x ≡ y = one_each i x y (whole x (omega arith) rx) (whole y (omega arith) ry) alike in
      λ w v short. cc (sx w v short, sy w v short, e)

  -- and no number of inputs does.
  stalled_all : (i : ℕ) → Stalled i → (w : Word) → Valid k w → (p q : ℕ) → p < M.states → q < M.states → Alike k M i p q
      → answer_from M p w ≡ answer_from M q w
  stalled_all i stalled [] v p q hp hq s = refl
  stalled_all i stalled (a ∷ w) (b, v) p q hp hq s =
      let more = stalled_one i stalled p q hp hq s in
      let e = more (a ∷ []) (b, tt) (omega arith) in
      cc (stalled_all i stalled w v (M.next p a) (M.next q a) (complete.closed p a hp b) (complete.closed q a hq b)
      (λ x vx short. let e' = more (a ∷ x) (b, vx) (omega arith) in cc))

  -- Some number of inputs below the number of states is such a one.
  stalls : (i : ℕ) × (i < M.states) × Stalled i
  stalls =
      elim (stall_or_grow (λ i. count (rep? i) M.states) M.states) [
        | inl stall ↦ stall
        | inr grown ↦
            absurd (omega (arith, count-≤ (rep? M.states) M.states, count_some (rep? 0) M.states 0 complete.start (λ p h. absurd (omega arith))))
      ]

  -- Two states that some word tells apart are told apart by a word of fewer inputs than there are states.
  pub told_soon : (p q : ℕ) → p < M.states → q < M.states → (w : Word) → Valid k w → answer_from M p w ≢ answer_from M q w
      → (v : Word) × Valid k v × (length v < M.states) × (answer_from M p v ≢ answer_from M q v)
  told_soon p q hp hq w valid differ =
      let (i, h, stalled) = stalls in
      elim (alike_or_apart k M i p q) [
        | inl s ↦ absurd (differ (stalled_all i stalled w valid p q hp hq s))
        | inr (v, valid_v, short, told) ↦ (v, valid_v, omega arith, told)
      ]

  -- Where every two states are told apart by some word, the words of at most r inputs make more than r classes, or as many as there are
  -- states.
  module _ (told : (p q : ℕ) → p < q → q < M.states → (w : Word) × Valid k w × (answer_from M p w ≢ answer_from M q w)) where
    many_classes : (r : ℕ) → r < M.states → r < count (rep? r) M.states
    many_classes zero h = count_some (rep? 0) M.states 0 complete.start (λ p less. absurd (omega arith))
    many_classes (suc r) h =
        let before = many_classes r (omega arith) in
        elim (dec_le (count (rep? (suc r)) M.states) (count (rep? r) M.states)) [
          | no grows ↦ omega arith
          | yes stalled ↦ omega (arith, count_all (rep? (suc r)) M.states M.states (omega arith) (each stalled))
        ]
      where
        each : Stalled r → (q : ℕ) → q < M.states → Rep (suc r) q
        each stalled q state p less alike =
            let (w, valid, differ) = told p q less state in
            differ (stalled_all r stalled w valid p q (omega arith) state (λ v valid_v short. alike v valid_v (omega arith)))

    -- So the pairs of states that no word of at most r inputs tells apart are few: a state that represents no class is alike with its
    -- representative and at most with those before it that represent none.
    pub few_alike : (r : ℕ) → r < M.states → total (λ q. count (λ p. alike? k M r p q) q) M.states ≤ total suc (M.states - suc r)
    few_alike r h =
        let not_reps : count other? M.states ≤ M.states - suc r = omega (arith, many_classes r h, count_both (rep? r) other? (λ q rep other. other rep) M.states) in
        omega (arith, pairs M.states, total_more suc _ _ not_reps)
      where
        other? : (q : ℕ) → Dec (¬ Rep r q)
        other? q = Dec.not (rep? r q)

        pairs : (u : ℕ) → total (λ q. count (λ p. alike? k M r p q) q) u ≤ total suc (count other? u)
        pairs zero = omega arith
        pairs (suc u) = step (other? u) (pairs u)
          where
            step : (d : Dec (¬ Rep r u)) → total (λ q. count (λ p. alike? k M r p q) q) u ≤ total suc (count other? u)
                → total (λ q. count (λ p. alike? k M r p q) q) u + count (λ p. alike? k M r p u) u ≤ total suc (tick d (count other? u))
            step (no is) le =
                omega (arith, count_none (λ p. alike? k M r p u) u (λ p less alike. is (λ rep. rep p less alike)))
            step (yes is) le =
                let (a, low, alike_a, rep_a) = represented r u in
                omega (
                  arith,
                  count_but_one (λ p. alike? k M r p u) other? a
                      (λ p alike ne rep. ne (one_each r p a rep rep_a (λ w v short. alike w v short ∙ sym (alike_a w v short)))) u,
                )
