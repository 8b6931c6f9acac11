-- Machines over any set of states. Whoever numbers their states below m has such a machine over numbers, with the state after reset
-- as its state 0, that answers every word alike.
use Rattle.std.specs.Prelude.{ℕ, ◌<◌, ◌≡◌, refl, List, [], ◌∷◌, cond, eqb}
use Rattle.std.proofs.Common.{sym, ap, ◌∙◌, inl, inr, arith, eqb-true, eq-eqb}
use Rattle.rules.specs.Words.{Word}
use Rattle.rules.specs.Machines.{Machine, Complete, answer_from, answer}
use Rattle.theory.specs.Lists.{outcome}

-- a Mealy machine: its state after reset, and for each state and input the next state and the output
pub record MachineOver (S : Type 0) : Type 0 where
  pub start : S
  pub next : S → ℕ → S
  pub output : S → ℕ → ℕ

-- the answer to a word, from the state s
abbrev pub answers_from : {S : Type 0} → MachineOver S → S → Word → List ℕ
answers_from M s [] = []
answers_from M s (i ∷ w) = M.output s i ∷ answers_from M (M.next s i) w

-- the answer after reset
abbrev pub answers : {S : Type 0} → MachineOver S → Word → List ℕ
answers M w = answers_from M M.start w

-- at most m states: each has a number below m, from which it can be told again
pub record AtMost (m : ℕ) (S : Type 0) : Type 0 where
  pub number : S → ℕ
  pub state : ℕ → S
  pub told : (s : S) → state (number s) ≡ s
  pub small : (s : S) → number s < m

-- the numbers 0 and c exchanged
abbrev exchange : ℕ → ℕ → ℕ
exchange c q = cond (eqb q c) 0 (cond (eqb q 0) c q)

exchange_zero : (c : ℕ) → exchange c 0 ≡ c
exchange_zero c = elim (outcome (eqb 0 c)) [ inl p ↦ rw p (eqb-true 0 c p) | inr p ↦ rw p ]

exchange_back : (c q : ℕ) → exchange c (exchange c q) ≡ q
exchange_back c q =
    elim (outcome (eqb q c)) [
      | inl p ↦ rw (p, exchange_zero c) (sym (eqb-true q c p))
      | inr p ↦ elim (outcome (eqb q 0)) [
        | inl z ↦ rw (p, z, eq-eqb c c refl) (sym (eqb-true q 0 z))
        | inr z ↦ rw (p, z, p, z)
      ]
    ]

exchange_small : (c q m : ℕ) → c < m → q < m → exchange c q < m
exchange_small c q m small_c small_q =
    elim (outcome (eqb q c)) [
      | inl p ↦ rw p (omega arith)
      | inr p ↦ elim (outcome (eqb q 0)) [ inl z ↦ rw (p, z) small_c | inr z ↦ rw (p, z) small_q ]
    ]

module _ {S : Type 0} (M : MachineOver S) {m : ℕ} (few : AtMost m S) where
  -- the number of the state after reset, which is exchanged with 0
  abbrev reset : ℕ
  reset = few.number M.start

  abbrev state_of : ℕ → S
  state_of q = few.state (exchange reset q)

  abbrev number_of : S → ℕ
  number_of s = exchange reset (few.number s)

  state_number : (s : S) → state_of (number_of s) ≡ s
  state_number s = ap few.state (exchange_back reset (few.number s)) ∙ few.told s

  -- the machine over numbers
  abbrev pub numbered : Machine
  numbered = record { states = m; next = λ q i. number_of (M.next (state_of q) i); output = λ q i. M.output (state_of q) i }

  pub numbered_complete : (k : ℕ) → Complete k numbered
  numbered_complete k =
      record {
        start = omega (arith, few.small M.start);
        closed = λ q i h b. exchange_small reset (few.number (M.next (state_of q) i)) m (few.small M.start) (few.small (M.next (state_of q) i));
      }

  same_from : (q : ℕ) (s : S) → state_of q ≡ s → (w : Word) → answer_from numbered q w ≡ answers_from M s w
  same_from q s is [] = refl
  same_from q s is (i ∷ w) =
      let out : M.output (state_of q) i ≡ M.output s i = ap (λ x. M.output x i) is in
      let rest = same_from (numbered.next q i) (M.next s i) (state_number (M.next (state_of q) i) ∙ ap (λ x. M.next x i) is) w in
      λ j. out j ∷ rest j

  pub numbered-answers : (w : Word) → answer numbered w ≡ answers M w
  numbered-answers = same_from 0 M.start (ap few.state (exchange_zero reset) ∙ few.told M.start)
