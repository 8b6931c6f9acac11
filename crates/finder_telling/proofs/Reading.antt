-- Laws of a telling word that is read off the table of distances.
use Prim.Native.Nat.{ℕ, zero, suc, ◌+◌, ◌-◌, ◌≤◌, ◌<◌}
use native.Mathlib.Omega.{arith}
use native.Mathlib.Numerals.{add-one}
use mathlib.Core.Path.{◌≡◌, refl, sym, ap, ◌∙◌}
use mathlib.Core.Logic.{inl, inr}
use mathlib.Core.List.{List, ◌∷◌}
use mathlib.Core.Bool.{Bool, true, false}
use mathlib.Core.Option.{Option, some}
use borrow.Author.Tests.{not-true, not-false, eqb-true, eqb-false, eq-eqb, ne_eqb}
use lib.ListN.{length, set, length-set}
use lib.Seq.{sets}
use Rattle.rules.specs.Lists.{first, numbers}
use Rattle.rules.specs.Machines.{Machine, Complete}
use Rattle.rules.specs.declared.Input.{Input}
use Rattle.theory.specs.Lists.{optional, clash, first-none, in_numbers}
use Rattle.theory.specs.Access.{FirstTold}
use Rattle.theory.specs.Distances.{Marked, first_one, read_last, read_on, read_first}
use Rattle.std.specs.Prelude.{Option as Found, Some, None}
use Rattle.finder_distances.specs.Marks.{mark_of}
use Rattle.finder_distances.specs.Leads.{differs, nears, leads, lead_of}
use Rattle.finder_distances.proofs.Rounding.{lead_some, lead_found, lead_none}
use Rattle.finder_telling.specs.Read.{input_of, next_input, read_off}
use Rattle.theory.specs.Wrote.{Wrote}

-- an input that passes is found, or a lower one
some_first : (test : ℕ → Bool) (k i : ℕ) → i < k → test i ≡ true → (j : ℕ) × (first test (numbers k) ≡ some j)
some_first test k i less passes =
    elim (optional (first test (numbers k))) [
      | inl e ↦ clash passes (first-none test e (in_numbers 0 k i (omega arith) (omega arith)))
      | inr found ↦ found
    ]

pub off_length : (k : ℕ) (M : Machine) (m : List ℕ) (d p q : ℕ) → length (read_off k M m d p q) ≡ d
unfolding read_off
off_length k M m zero p q = refl
off_length k M m (suc d) p q = ap suc (off_length k M m d _ _)

off_step : (k : ℕ) (M : Machine) (m : List ℕ) (left p q : ℕ) → 0 < left
    → read_off k M m left p q ≡ next_input k M m (left - 1) p q ∷ read_off k M m (left - 1) (M.next p (next_input k M m (left - 1) p q)) (M.next q (next_input k M m (left - 1) p q))
unfolding read_off
off_step k M m zero p q some' = absurd (omega arith)
off_step k M m (suc d) p q some' = let e : suc d - 1 ≡ d = omega arith in rw e

-- In the middle of a word: what is still to be written completes it.
pub record Midword (k : ℕ) (M : Machine) (m : List ℕ) (out₀ : List ℕ) (at p q : ℕ) (out : List ℕ) (one other left place : ℕ) : Type 0 where
  pub size : length out ≡ length out₀
  pub state : one < M.states
  pub other_state : other < M.states
  pub room : place + left ≡ at + mark_of m p q
  pub far : 0 < left → mark_of m one other ≡ left
  pub rest : sets out₀ at (read_off k M m (mark_of m p q) p q) ≡ sets out place (read_off k M m left one other)

module _ (k : ℕ) (M : Machine) (complete : Complete k M) (m : List ℕ) (rounds : ℕ)
    (all : (p q : ℕ) → p < M.states → q < M.states → Marked k M rounds p q (mark_of m p q)) where
  module _ (p q : ℕ) (state_p : p < M.states) (state_q : q < M.states) where
    -- There is an input to go on with,
    some_lead : (left : ℕ) → mark_of m p q ≡ suc left → (i : ℕ) × (i < k) × (leads M m left p q i ≡ true)
    unfolding differs nears
    some_lead zero e =
        let (i, h, other) = read_last k M complete rounds (mark_of m) all p q state_p state_q e in
        (i, h, rw (ne_eqb (M.output p i) (M.output q i) other))
    some_lead (suc left) e =
        let (i, h, is) = read_on k M complete rounds (mark_of m) all p q state_p state_q left e in
        (i, h, eq-eqb _ (suc left) is)

    next_found : (left : ℕ) → mark_of m p q ≡ suc left → first (leads M m left p q) (numbers k) ≡ some (next_input k M m left p q)
    unfolding next_input
    next_found left e =
        let (i, h, passes) = some_lead left e in
        let (j, found) = some_first (leads M m left p q) k i h passes in
        found ∙ ap (λ (o : Option ℕ). some (input_of o)) (sym found)

    next_is : (left : ℕ) → mark_of m p q ≡ suc left
        → (next_input k M m left p q < k) × (leads M m left p q (next_input k M m left p q) ≡ true) × ((j : ℕ) → j < next_input k M m left p q → leads M m left p q j ≡ false)
    next_is left e = lead_found (leads M m left p q) k (next_input k M m left p q) (next_found left e)

    pub next_small : (left : ℕ) → mark_of m p q ≡ suc left → next_input k M m left p q < k
    next_small left e = (next_is left e).0

    -- and it leads one nearer.
    pub next_nearer : (left : ℕ) → mark_of m p q ≡ suc (suc left)
        → mark_of m (M.next p (next_input k M m (suc left) p q)) (M.next q (next_input k M m (suc left) p q)) ≡ suc left
    unfolding nears
    next_nearer left e = eqb-true _ (suc left) (next_is (suc left) e).1

  -- What is read off is the first telling word.
  pub off_first : (d p q : ℕ) → p < M.states → q < M.states → mark_of m p q ≡ suc d → FirstTold k M p q (read_off k M m (suc d) p q)
  unfolding read_off differs nears
  off_first zero p q state_p state_q e =
      let (h, passes, lower) = next_is p q state_p state_q 0 e in
      first_one k M p q (next_input k M m 0 p q) h (eqb-false _ _ (not-true _ passes)) (λ j less. eqb-true _ _ (not-false _ (lower j less)))
  off_first (suc d) p q state_p state_q e =
      let (h, passes, lower) = next_is p q state_p state_q (suc d) e in
      let i = next_input k M m (suc d) p q in
      let near = next_nearer p q state_p state_q d e in
      read_first k M complete rounds (mark_of m) all p q state_p state_q d i (read_off k M m (suc d) (M.next p i) (M.next q i)) e h near
      (λ j less is. eqb-false _ _ (lower j less) is)
      (off_first d (M.next p i) (M.next q i) (complete.closed p i state_p h) (complete.closed q i state_q h) near)

  -- What the program finds is that input.
  module _ (p q : ℕ) (state_p : p < M.states) (state_q : q < M.states) (left : ℕ) (far : mark_of m p q ≡ left + 1) (found : Found Input)
      (search : found ≡ lead_of (first (leads M m left p q) (numbers k))) where
    pub input_found : (i : Input) → found ≡ Some i → (i.0 ≡ next_input k M m left p q) × (i.0 < k)
    unfolding next_input
    input_found i is =
        let e = lead_some (leads M m left p q) k found i search is in
        (sym (ap input_of e), (lead_found (leads M m left p q) k i.0 e).0)

    pub input_lacking : found ≡ None → ⊥
    input_lacking is =
        let (i, h, passes) = some_lead p q state_p state_q left (far ∙ add-one left) in
        clash passes (lead_none (leads M m left p q) k found search is i h)

  module _ (out₀ : List ℕ) (at p q : ℕ) where
    pub word_start : p < M.states → q < M.states → (left : ℕ) → left ≡ mark_of m p q → Midword k M m out₀ at p q out₀ p q left at
    word_start hp hq left is =
        record { size = refl; state = hp; other_state = hq; room = omega arith; far = λ some'. sym is; rest = rw is }

    module _ (out : List ℕ) (one other left place : ℕ) (mid : Midword k M m out₀ at p q out one other left place) where
      pub word_far : 0 < left → mark_of m one other ≡ left - 1 + 1
      word_far some' = mid.far some' ∙ omega arith

      pub word_next : 0 < left → (i v one' other' : ℕ) → i ≡ next_input k M m (left - 1) one other → i < k → v ≡ i → one' ≡ M.next one i → other' ≡ M.next other i
          → Midword k M m out₀ at p q (set out place v) one' other' (left - 1) (place + 1)
      word_next some' i v one' other' is small wrote next_one next_other =
          record {
            size = simp length-set mid.size;
            state = rw next_one (complete.closed one i mid.state small);
            other_state = rw next_other (complete.closed other i mid.other_state small);
            room = omega (arith, mid.room);
            far = λ still.
                let twice : left - 1 ≡ suc (left - 2) = omega arith in
                let nearer = next_nearer one other mid.state mid.other_state (left - 2) (mid.far some' ∙ omega arith) in
                rw (next_one, next_other, is, twice) nearer;
            rest = mid.rest ∙ rw (off_step k M m left one other some', wrote, next_one, next_other, is, add-one place);
          }

      pub word_end : left ≤ 0 → Wrote out₀ at (read_off k M m (mark_of m p q) p q) out place
      unfolding read_off
      word_end done =
          let none' : left ≡ 0 = omega arith in
          record { place = omega (arith, mid.room, off_length k M m (mark_of m p q) p q); same = sym (rw none' at mid.rest) }
