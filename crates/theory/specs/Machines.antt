-- Laws of machines: where a word leads and what is answered to it, one part of the word after the other; and that the machine
-- that a table within the sizes holds is complete.
use Rattle.std.specs.Prelude.{◌≡◌, refl, [], ◌∷◌, ◌++◌, ℕ, ◌+◌, ◌*◌, ◌<◌}
use Rattle.std.proofs.Common.{append_assoc}
use Rattle.std.proofs.Math.Arith.{digits_lt}
use Rattle.rules.specs.Words.{Word, Valid}
use Rattle.rules.specs.Machines.{Machine, Complete, Table, after, answer_from, machine_of}
use Rattle.theory.specs.Sized.{SizedTable}
use Rattle.theory.specs.Lists.{get_or_in}

module _ (M : Machine) where
  -- Two words one after the other lead to where the second leads from where the first does.
  pub after_append : (q : ℕ) (x y : Word) → after M q (x ++ y) ≡ after M (after M q x) y
  after_append q [] y = refl
  after_append q (i ∷ x) y = after_append (M.next q i) x y

  -- The state after one input more.
  pub after_one_more : (q : ℕ) (x y : Word) (i : ℕ) → after M q (x ++ (y ++ (i ∷ []))) ≡ M.next (after M q (x ++ y)) i
  after_one_more q x y i = rw (← append_assoc x y (i ∷ [])) (after_append q (x ++ y) (i ∷ []))

-- A word of inputs leads from a state to a state.
pub after_small : {k : ℕ} {M : Machine} → Complete k M → (q : ℕ) (w : Word) → q < M.states → Valid k w → after M q w < M.states
after_small complete q [] h v = h
after_small {M} complete q (i ∷ w) h (b, v) = after_small complete (M.next q i) w (complete.closed q i h b) v

-- Two states, of one machine or of two, that answer a word alike answer its first part alike, and then the states to which
-- the first part leads answer the rest alike.
module _ (U G : Machine) where
  pub alike_first : (p q : ℕ) (x y : Word) → answer_from U p (x ++ y) ≡ answer_from G q (x ++ y) → answer_from U p x ≡ answer_from G q x
  alike_first p q [] y e = refl
  alike_first p q (i ∷ x) y e = cc (alike_first (U.next p i) (G.next q i) x y (cc))

  pub alike_rest : (p q : ℕ) (x y : Word) → answer_from U p (x ++ y) ≡ answer_from G q (x ++ y)
      → answer_from U (after U p x) y ≡ answer_from G (after G q x) y
  alike_rest p q [] y e = e
  alike_rest p q (i ∷ x) y e = alike_rest (U.next p i) (G.next q i) x y (cc)

-- The machine of a table within the sizes is complete: the entry for a state and an input stands inside the table.
pub golden_complete : {k n : ℕ} {t : Table} → SizedTable k n t → Complete k (machine_of k n t)
golden_complete {k} {t} sized =
    record {
      start = sized.some_state;
      closed = λ q i h b. sized.next_states _ (get_or_in t (q * k + i) (0, 0) (rw sized.entries (digits_lt h b)));
    }
