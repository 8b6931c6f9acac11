-- Two machines that some word tells apart are told apart by one of at most n + u - 1 inputs, where n and u are the numbers of
-- their states: the class_counting lemma at the n + u states of both, side by side.
use Rattle.std.specs.Prelude.{◌≡◌, refl, ◌≢◌, ℕ, ◌+◌, ◌-◌, ◌≤◌, ◌<◌, length}
use Rattle.std.proofs.Math.Logic.{ite, if_pos, if_neg}
use mathlib.Core.List.{[], ◌∷◌}
use Rattle.std.proofs.Math.Decide.{dec_lt}
use Rattle.std.proofs.Common.{arith}
use Rattle.rules.specs.Words.{Word, Valid}
use Rattle.rules.specs.Machines.{Machine, Complete, answer_from, answer}
use Rattle.theory.specs.Classes.{told_soon}

-- Both machines in one: the states of the first keep their numbers, those of the second come after them.
abbrev beside : Machine → Machine → Machine
beside G U =
    record {
      states = G.states + U.states;
      next = λ q i. ite (dec_lt q G.states) (G.next q i) (G.states + U.next (q - G.states) i);
      output = λ q i. ite (dec_lt q G.states) (G.output q i) (U.output (q - G.states) i);
    }

module _ (k : ℕ) (G U : Machine) (complete-G : Complete k G) (complete-U : Complete k U) where
  -- It is complete, and each of its states answers as it does in its own machine.
  both : Complete k (beside G U)
  both =
      record {
        start = omega (arith, complete-G.start);
        closed = λ q i h b.
            elim (dec_lt q G.states) as (λ d. ite d (G.next q i) (G.states + U.next (q - G.states) i) < G.states + U.states) [
              | yes low ↦ omega (arith, complete-G.closed q i low b)
              | no high ↦ omega (arith, complete-U.closed (q - G.states) i (omega arith) b)
            ];
      }

  as_first : (w : Word) → Valid k w → (q : ℕ) → q < G.states → answer_from (beside G U) q w ≡ answer_from G q w
  as_first [] v q h = refl
  as_first (i ∷ w) (b, v) q h = simp (if_pos {C = ℕ} (dec_lt q G.states) h) (cc (as_first w v (G.next q i) (complete-G.closed q i h b)))

  as_second : (w : Word) → Valid k w → (q : ℕ) → q < U.states → answer_from (beside G U) (G.states + q) w ≡ answer_from U q w
  as_second [] v q h = refl
  as_second (i ∷ w) (b, v) q h =
      let number : G.states + q - G.states ≡ q = omega arith in
      let after : ¬ (G.states + q < G.states) = λ before. absurd (omega arith) in
      simp (if_neg {C = ℕ} (dec_lt (G.states + q) G.states) after, number) (cc (as_second w v (U.next q i) (complete-U.closed q i h b)))

  -- If some word tells them apart, one of at most n + u - 1 inputs does.
  pub short_telling : (w : Word) → Valid k w → answer G w ≢ answer U w
      → (v : Word) × Valid k v × (length v ≤ G.states + U.states - 1) × (answer G v ≢ answer U v)
  short_telling w valid differ =
      let (v, valid_v, short, told) = told_soon both 0 (G.states + 0) (omega arith) (omega arith) w valid (λ e. differ (cc (same w valid, same' w valid))) in
      (v, valid_v, omega arith, λ e. told (cc (same v valid_v, same' v valid_v)))
    where
      same : (v : Word) → Valid k v → answer_from (beside G U) 0 v ≡ answer G v
      same v valid_v = as_first v valid_v 0 complete-G.start

      same' : (v : Word) → Valid k v → answer_from (beside G U) (G.states + 0) v ≡ answer U v
      same' v valid_v = as_second v valid_v 0 complete-U.start
