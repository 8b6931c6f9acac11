-- Laws of the lowest state and input whose entry is empty.
use Prim.Native.Nat.{ℕ, zero, suc, ◌+◌, ◌≤◌, ◌<◌}
use native.Mathlib.Omega.{arith}
use native.Mathlib.Decide.{ℕ_discrete}
use mathlib.Core.Path.{◌≡◌, refl, sym, ap, ◌∙◌}
use mathlib.Core.Logic.{inl, inr}
use mathlib.Core.List.Memᴰ
use mathlib.Core.List.{List, [], map, flat_map}
use mathlib.Core.Bool.{Bool, true, false}
use mathlib.Core.Option.{Option, none, some}
use borrow.Author.Tests.{eq-eqb, ne_eqb}
use lib.ListN.{length, get_or}
use Rattle.rules.specs.Lists.{◌∈◌, numbers_from, numbers, first}
use Rattle.rules.specs.Sizes.{most_inputs, most_states}
use Rattle.rules.specs.Answers.{unit_state}
use Rattle.rules.specs.declared.UnitState.{UnitState}
use Rattle.rules.specs.declared.Input.{Input}
use Rattle.rules.specs.Kiss2.{Field, Term, is_about, is_silent, grid, place_in}
use Rattle.theory.specs.Lists.{optional, none_first, first_same, first_left, first_right, of_flat_map, of_numbers}
use Rattle.importer_terms.specs.Entries.{entry_place, next_mark, EntriesAt}
use Rattle.std.specs.Prelude.{None, Some, unwrap_or}
use Rattle.importer_unit.specs.Numbered.{NumbersIn, NumberedAt}
use Rattle.importer_unit.specs.Held.{is_empty_at, LowestEmpty, silent_found}

-- the first inputs of a name's number have entries
pub record RowFull (nexts : List ℕ) (j n : ℕ) : Type 0 where
  pub full : (i : ℕ) → i < n → is_empty_at nexts j i ≡ false

module _ (nexts : List ℕ) (j : ℕ) where
  pub row_start : (n : ℕ) → n ≡ 0 → RowFull nexts j n
  row_start n none_yet = record { full = λ i less. absurd (omega arith) }

  module _ (n : ℕ) (so_far : RowFull nexts j n) (place m : ℕ) (at : place ≡ entry_place j m) (this : m ≡ n) where
    pub row_next : (get_or nexts place 0 ≡ 0 → ⊥) → (n' : ℕ) → n' ≡ n + 1 → RowFull nexts j n'
    row_next there n' after =
        let here : is_empty_at nexts j n ≡ false = rw (← this, ← at) (ne_eqb (get_or nexts place 0) 0 there) in
        record { full = λ i less. elim (ℕ_discrete i n) [ yes e ↦ rw e here | no ne ↦ so_far.full i (omega arith) ] }

    pub row_found : (inputs : ℕ) (r : Input) → n < inputs → r.0 ≡ n → get_or nexts place 0 ≡ 0 → LowestEmpty nexts j inputs (Some r)
    row_found inputs r less is nothing =
        let here : is_empty_at nexts j n ≡ true = rw (← this, ← at) (eq-eqb (get_or nexts place 0) 0 nothing) in
        record { told = (omega arith, λ i earlier. so_far.full i (omega arith), rw is here) }

  pub row_end : (n inputs : ℕ) → RowFull nexts j n → inputs ≤ n → LowestEmpty nexts j inputs None
  row_end n inputs so_far all = record { told = λ i less. so_far.full i (omega arith) }

-- The first of a grid.
module _ (test : ℕ × ℕ → Bool) where
  row_none : (q i n : ℕ) → ((m : ℕ) → i ≤ m → m < i + n → test (q, m) ≡ false) → first test (map (λ m. (q, m)) (numbers_from i n)) ≡ none
  row_none q i zero never = refl
  row_none q i (suc n) never = rw (never i (omega arith) (omega arith)) (row_none q (suc i) n (λ m le less. never m (omega arith) (omega arith)))

  row_first : (q r i n : ℕ) → ((m : ℕ) → m < r → test (q, m) ≡ false) → test (q, r) ≡ true → i ≤ r → r < i + n
      → first test (map (λ m. (q, m)) (numbers_from i n)) ≡ some (q, r)
  row_first q r i zero earlier here le less = absurd (omega arith)
  row_first q r i (suc n) earlier here le less =
      elim (ℕ_discrete i r) [
        | yes e ↦ rw (e, here)
        | no ne ↦ rw (earlier i (omega arith)) (row_first q r (suc i) n earlier here (omega arith) (omega arith))
      ]

  module _ (k : ℕ) where
    abbrev row : ℕ → List (ℕ × ℕ)
    row q = map (λ i. (q, i)) (numbers k)

    grid_first_from : (q r p n : ℕ) → ((s m : ℕ) → s < q → m < k → test (s, m) ≡ false) → ((m : ℕ) → m < r → test (q, m) ≡ false) → test (q, r) ≡ true
        → r < k → p ≤ q → q < p + n → first test (flat_map row (numbers_from p n)) ≡ some (q, r)
    unfolding flat_map
    grid_first_from q r p zero before earlier here few le less = absurd (omega arith)
    grid_first_from q r p (suc n) before earlier here few le less =
        elim (ℕ_discrete p q) [
          | yes e ↦ rw e (first_left test (row q) (flat_map row (numbers_from (suc q) n)) (row_first q r 0 k earlier here (omega arith) (omega arith)))
          | no ne ↦
              first_right test (row p) (flat_map row (numbers_from (suc p) n)) (row_none p 0 k (λ m le' less'. before p m (omega arith) (omega arith)))
              ∙ grid_first_from q r (suc p) n before earlier here few (omega arith) (omega arith)
        ]

of_grid : (n k : ℕ) {a : ℕ × ℕ} → a ∈ grid n k → (a.0 < n) × (a.1 < k)
of_grid n k m =
    let (q, in_q, in_row) = of_flat_map _ (numbers n) m in
    let (i, in_i, is) = Memᴰ.of_map _ (numbers k) in_row in
    let (_, state) = of_numbers 0 n in_q in
    let (_, input) = of_numbers 0 k in_i in
    rw (← is) (omega arith, omega arith)

-- whether the entry of a state and an input is empty
abbrev empty_at : List ℕ → List ℕ → ℕ × ℕ → Bool
empty_at nexts numbers a = is_empty_at nexts (get_or numbers a.0 0) a.1

-- the first states have entries for all inputs
pub record RowsFull (nexts numbers : List ℕ) (inputs n : ℕ) : Type 0 where
  pub full : (q i : ℕ) → q < n → i < inputs → is_empty_at nexts (get_or numbers q 0) i ≡ false

pub name_low : {numbers : List ℕ} {n : ℕ} → NumbersIn numbers n → (j p : ℕ) → j ≡ get_or numbers p 0 → p < n → j < most_states
name_low v j p is less = rw is (v.low p less)

module _ (nexts numbers : List ℕ) (inputs : ℕ) where
  pub rows_start : (n : ℕ) → n ≡ 0 → RowsFull nexts numbers inputs n
  rows_start n none_yet = record { full = λ q i less few. absurd (omega arith) }

  pub rows_next : (n : ℕ) → RowsFull nexts numbers inputs n → (j p : ℕ) → j ≡ get_or numbers p 0 → p ≡ n → LowestEmpty nexts j inputs None
      → (n' : ℕ) → n' ≡ n + 1 → RowsFull nexts numbers inputs n'
  rows_next n so_far j p is this low n' after =
      record {
        full = λ q i less few.
            elim (ℕ_discrete q n) [
              | yes e ↦ rw (e, ← this, ← is) (low.told i few)
              | no ne ↦ so_far.full q i (omega arith) few
            ];
      }

  module _ (names order : List Field) (terms : List Term) (outputs ranks : List ℕ) (at : EntriesAt nexts outputs names terms)
      (numbered : NumberedAt ranks numbers names order) (states : ℕ) (all_states : length order ≡ states) (few : inputs ≤ most_inputs) where
    abbrev silent_at : ℕ × ℕ → Bool
    silent_at a = is_silent (first (is_about (get_or order a.0 []) a.1) terms)

    empty_silent : (q i : ℕ) → q < states → i < inputs → empty_at nexts numbers (q, i) ≡ silent_at (q, i)
    empty_silent q i state input =
        let (m, is) = numbered.inverse q (omega arith) in
        let mark : get_or nexts (entry_place (get_or numbers q 0) i) 0 ≡ next_mark names (first (is_about (get_or order q []) i) terms) =
        ap (λ j. get_or nexts (entry_place j i) 0) is ∙ at.next_at (get_or order q []) m i (omega arith)
        in
        elim (optional (first (is_about (get_or order q []) i) terms)) [
          | inl nothing ↦ eq-eqb _ 0 (mark ∙ ap (next_mark names) nothing) ∙ ap is_silent (sym nothing)
          | inr (t, found) ↦
              let there : get_or nexts (entry_place (get_or numbers q 0) i) 0 ≡ suc (place_in names t.next) = mark ∙ ap (next_mark names) found in
              ne_eqb (get_or nexts (entry_place (get_or numbers q 0) i) 0) 0 (λ z. omega arith) ∙ ap is_silent (sym found)
        ]

    same_first : first (empty_at nexts numbers) (grid states inputs) ≡ first silent_at (grid states inputs)
    same_first =
        first_same (empty_at nexts numbers) silent_at (grid states inputs)
        (λ a m. let (state, input) = of_grid states inputs m in empty_silent a.0 a.1 state input)

    pub silent_none : (n : ℕ) → RowsFull nexts numbers inputs n → states ≤ n → None ≡ silent_found (first silent_at (grid states inputs))
    silent_none n so_far all =
        let nothing = none_first (empty_at nexts numbers) (grid states inputs)
        (λ a m. let (state, input) = of_grid states inputs m in so_far.full a.0 a.1 (omega arith) input)
        in
        ap silent_found (sym nothing ∙ same_first)

    pub silent_here : (n : ℕ) → RowsFull nexts numbers inputs n → n < states → (j p : ℕ) (i : Input) → j ≡ get_or numbers p 0 → p ≡ n → LowestEmpty nexts j inputs (Some i)
        → (s : UnitState) → s.0 ≡ n → Some (s, i) ≡ silent_found (first silent_at (grid states inputs))
    silent_here n so_far state j p i at_p this low s s_is =
        let (input, earlier, here) = low.told in
        let is : j ≡ get_or numbers n 0 = rw (← this) at_p in
        let found : first (empty_at nexts numbers) (grid states inputs) ≡ some (n, i.0) =
        grid_first_from (empty_at nexts numbers) inputs n i.0 0 states so_far.full (λ m less. rw (← is) (earlier m less)) (rw (← is) here)
        input (omega arith) (omega arith)
        in
        let struct_s : s ≡ unit_state n = λ z. record { 0 = s_is z } in
        rw struct_s (ap silent_found (sym found ∙ same_first))

-- What an answer says of the search.
pub nowhere_none : (o : Option (ℕ × ℕ)) → None ≡ silent_found o → o ≡ none
nowhere_none none e = refl
nowhere_none (some a) e = cc

pub at_some : (o : Option (ℕ × ℕ)) (s : UnitState) (i : Input) → Some (s, i) ≡ silent_found o → o ≡ some (s.0, i.0)
at_some none s i e = cc
at_some (some a) s i e =
    let both = ap (λ o. unwrap_or o (s, i)) e in
    rw (ap (λ p. p.0) both, ap (λ p. p.1) both)
