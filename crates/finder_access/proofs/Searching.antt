-- Laws of the search over the states of a unit: it starts with the state 0, each step takes it one further, and what it leaves in
-- the end says which states have an access word, and which.
use Prim.Native.Nat.{ℕ, zero, suc, ◌+◌, ◌-◌, ◌≤◌, ◌<◌}
use native.Mathlib.Omega.{arith}
use native.Mathlib.Decide.{ℕ_discrete}
use native.Mathlib.Numerals.{add-one}
use mathlib.Core.Path.{◌≡◌, refl, sym, ap, ◌∙◌}
use mathlib.Core.Logic.{◌≢◌}
use mathlib.Core.List.{List, [], ◌∷◌, ◌++◌}
use mathlib.Core.Bool.{not}
use mathlib.Core.Option.{none, some}
use borrow.Author.Tests.{ne_eqb}
use lib.Dec.{eqb}
use lib.ListN.{length, get_or, set, length-set, get_or-replicate, length-replicate}
use lib.Seq.{get_or-set_same, get_or-set_other}
use Rattle.rules.specs.Sizes.{most_inputs, most_states}
use Rattle.rules.specs.Lists.{numbers}
use Rattle.rules.specs.Words.{Word}
use Rattle.rules.specs.Machines.{Complete}
use Rattle.rules.specs.Files.{UnitData, unit}
use Rattle.rules.specs.Find.{access_word, nothing, word_of}
use Rattle.theory.specs.Lists.{of_numbers}
use Rattle.theory.specs.Machines.{after_small}
use Rattle.theory.specs.Access.{access_none}
use Rattle.theory.specs.Breadth.{step_of, searched_start, searched_entry, searched_met, searched_new, searched_room, searched_reaches, searched_first}
use Rattle.theory.specs.Find.{access_is}
use Rattle.reader.specs.declared.UnitShape.{UnitShape}
use Rattle.walker.proofs.Tables.{machine_complete}
use Rattle.reader.specs.Standing.{unit_in, UnitAt}
use Rattle.finder_access.specs.Queue.{entry_of, state_at, parent_at, input_at, has_place, unplaced}
use Rattle.finder_access.specs.Search.{Placed, Searching, PutOf}
use Rattle.finder_access.specs.Reached.{entry_word, reached_states, Reaches}
use Rattle.finder_access.proofs.Counting.{keep_same, count_none, count_more}
use Rattle.finder_access.proofs.Queueing.{new_state, old_state, grown_word, old_word, new_word, spelt_more}

pub unplaced-length : length unplaced ≡ most_states
unfolding unplaced
unplaced-length = length-replicate {A = ℕ} most_states 0

no_place : (q : ℕ) → q < most_states → get_or unplaced q 0 ≡ 0
unfolding unplaced
no_place q h = get_or-replicate {A = ℕ} most_states q 0 0 h

-- the machine of a unit where it stands
pub unit_complete : (s : List ℕ) (x : UnitShape) → UnitAt s x → Complete x.inputs (unit (unit_in s x))
unit_complete s x at = machine_complete s x.table x.inputs x.states at.table

-- a state that has not been met is put where there is room
pub put_free : (places : List ℕ) {tail q n : ℕ} → n ≡ q → (get_or places q 0 ≡ 0 → tail < most_states) → get_or places n 0 ≡ 0 → tail < most_states
put_free places at free new = free (rw at at new)

-- what a state was put to, where it was asked for at n
module _ (queue places : List ℕ) (tail q step n : ℕ) (at : n ≡ q) where
  pub put_kept : 0 < get_or places n 0 → PutOf (get_or places q 0) queue places tail q step queue places tail
  put_kept pos = kept (get_or places q 0) (rw at at pos)
    where
      kept : (place : ℕ) → 0 < place → PutOf place queue places tail q step queue places tail
      kept zero pos = absurd (omega arith)
      kept (suc place) pos = (refl, refl, refl)

  pub put_queued : get_or places n 0 ≡ 0 → (v : ℕ) → v ≡ entry_of step q → PutOf (get_or places q 0) queue places tail q step (set queue tail v) (set places n (tail + 1)) (tail + 1)
  put_queued new v is =
      let here : get_or places q 0 ≡ 0 = rw at at new in
      rw here (ap (set queue tail) is, ap (λ m. set places m (tail + 1)) at, refl)

module _ (u : UnitData) (complete : Complete u.inputs (unit u)) (few_inputs : u.inputs ≤ most_inputs) (few_states : u.states ≤ most_states) where
  -- The queue starts with the state 0.
  pub search_start : (queue places : List ℕ) → length queue ≡ most_states → places ≡ unplaced → Searching u (set queue 0 0) (set places 0 1) (step_of 0 0) 1
  unfolding state_at
  search_start queue places room blank =
      record {
        room = simp length-set room;
        table = rw blank (simp length-set unplaced-length);
        few = omega (arith, complete.start);
        counted =
            let inside : 0 < length unplaced = omega (arith, unplaced-length) in
            rw blank (omega (arith, count_more unplaced 0 0 u.states inside (no_place 0 (omega arith)) complete.start, count_none u.states few_states));
        word = λ j. [];
        spelt = record { falls = record { earlier = λ j some h. absurd (omega arith) }; start = refl; step = λ j some h. absurd (omega arith) };
        placed =
            record {
              inside = λ q h. elim (ℕ_discrete q 0) [ yes z ↦ rw (z, here) (omega arith) | no nz ↦ rw (there q nz h) (omega arith) ];
              met = λ q h pos.
                  elim (ℕ_discrete q 0) [
                    | yes z ↦ rw (z, here) first
                    | no nz ↦ let none = there q nz h in absurd (omega arith)
                  ];
              unmet = λ q h none j less.
                  let z : j ≡ 0 = omega arith in
                  rw (z, first) (λ e. let z' : q ≡ 0 = sym e in let one : get_or (set places 0 1) 0 0 ≡ 0 = rw z' at none in omega (arith, here));
            };
        searched = searched_start u.inputs (unit u) (state_at (set queue 0 0)) (λ j. []) first refl;
      }
    where
      first : state_at (set queue 0 0) 0 ≡ 0
      first = let inside : 0 < length queue = omega arith in rw (get_or-set_same queue 0 0 0 inside)

      here : get_or (set places 0 1) 0 0 ≡ 1
      here = let inside : 0 < length places = omega (arith, ap length blank, unplaced-length) in get_or-set_same places 0 1 0 inside

      there : (q : ℕ) → q ≢ 0 → q < most_states → get_or (set places 0 1) q 0 ≡ 0
      there q nz h = get_or-set_other places 0 q 1 0 nz ∙ ap (λ (l : List ℕ). get_or l q 0) blank ∙ no_place q h

  -- After the last input of an entry comes the first input of the next one.
  pub search_entry : (queue places : List ℕ) (h i tail : ℕ) → u.inputs ≤ i → i ≤ u.inputs → Searching u queue places (step_of h i) tail
      → Searching u queue places (step_of (h + 1) 0) tail
  search_entry queue places h i tail all most s =
      record {
        room = s.room;
        table = s.table;
        few = s.few;
        counted = s.counted;
        word = s.word;
        spelt = s.spelt;
        placed = s.placed;
        searched = rw (add-one h) (searched_entry u.inputs (unit u) (state_at queue) s.word h i tail few_inputs all most s.searched);
      }

  module _ (queue places : List ℕ) (step tail : ℕ) (s : Searching u queue places step tail) where
    -- what is in the queue are states,
    pub state_small : (j : ℕ) → j < tail → state_at queue j < u.states
    state_small j in_j =
        rw (← (s.searched.leads j in_j)) (after_small complete 0 (s.word j) complete.start (s.searched.valid j in_j))

    -- and there is room for one that has not been met
    pub put_room : (p : ℕ) → p < u.states → get_or places p 0 ≡ 0 → tail < u.states
    put_room p small new =
        searched_room u.inputs (unit u) few_inputs (state_at queue) s.word tail step s.searched complete p small
        (s.placed.unmet p (omega arith) new)

  module _ (queue places : List ℕ) (h i tail : ℕ) (s : Searching u queue places (step_of h i) tail) (in_h : h < tail) (input : i < u.inputs)
      (p : ℕ) (small : p < u.states) (is : p ≡ (unit u).next (state_at queue h) i) where
    -- the step leads to a state that was met already
    put_met : 0 < get_or places p 0 → Searching u queue places (step_of h (i + 1)) tail
    put_met pos =
        let inside = s.placed.inside p (omega arith) in
        record {
          room = s.room;
          table = s.table;
          few = s.few;
          counted = s.counted;
          word = s.word;
          spelt = s.spelt;
          placed = s.placed;
          searched = rw (add-one i)
              (searched_met u.inputs (unit u) few_inputs (state_at queue) s.word tail h i s.searched in_h input (get_or places p 0 - 1) (omega arith)
              (s.placed.met p (omega arith) pos ∙ is));
        }

    -- the step leads to a new state, which is queued behind the others
    module _ (new : get_or places p 0 ≡ 0) where
      abbrev queue' : List ℕ
      queue' = set queue tail (entry_of (step_of h i) p)

      abbrev places' : List ℕ
      places' = set places p (tail + 1)

      room : tail < u.states
      room = put_room queue places (step_of h i) tail s p small new

      in_queue : tail < length queue
      in_queue = omega (arith, room, s.room)

      low : i < most_inputs
      low = omega arith

      state : p < most_states
      state = omega arith

      state_old : (j : ℕ) → j < tail → state_at queue' j ≡ state_at queue j
      state_old = old_state queue tail h i p in_queue low state

      state_new : state_at queue' tail ≡ p
      state_new = new_state queue tail h i p in_queue low state

      here : get_or places' p 0 ≡ tail + 1
      here = let inside : p < length places = omega (arith, s.table) in get_or-set_same places p (tail + 1) 0 inside

      there : (q : ℕ) → q ≢ p → get_or places' q 0 ≡ get_or places q 0
      there q ne = get_or-set_other places p q (tail + 1) 0 ne

      placed_more : Placed queue' places' (tail + 1)
      placed_more =
          record {
            inside = λ q below.
                elim (ℕ_discrete q p) [
                  | yes e ↦ rw (e, here) (omega arith)
                  | no ne ↦ rw (there q ne) (omega (arith, s.placed.inside q below))
                ];
            met = λ q below pos.
                elim (ℕ_discrete q p) [
                  | yes e ↦
                      let last : tail + 1 - 1 ≡ tail = omega arith in
                      rw (e, here, last) state_new
                  | no ne ↦
                      let pos' : 0 < get_or places q 0 = rw (there q ne) at pos in
                      let inside = s.placed.inside q below in
                      rw (there q ne, state_old (get_or places q 0 - 1) (omega arith)) (s.placed.met q below pos')
                ];
            unmet = λ q below none j in_j.
                elim (ℕ_discrete q p) [
                  | yes e ↦ let z : get_or places' p 0 ≡ 0 = rw e at none in absurd (omega (arith, here))
                  | no ne ↦
                      elim (ℕ_discrete j tail) [
                        | yes last ↦ rw (last, state_new) (λ same. ne (sym same))
                        | no old ↦
                            let less : j < tail = omega arith in
                            rw (state_old j less) (s.placed.unmet q below (rw (there q ne) at none) j less)
                      ]
                ];
          }

      put_new : Searching u queue' places' (step_of h (i + 1)) (tail + 1)
      put_new =
          record {
            room = simp length-set s.room;
            table = simp length-set s.table;
            few = omega (arith, room);
            counted =
                let inside : p < length places = omega (arith, s.table) in
                omega (arith, s.counted, count_more places p tail u.states inside new small);
            word = grown_word queue tail h i p in_queue low state s.word;
            spelt = spelt_more queue tail h i p in_queue low state s.word s.spelt s.searched.some in_h;
            placed = placed_more;
            searched = rw (add-one i, add-one tail)
                (searched_new u.inputs (unit u) few_inputs (state_at queue) s.word tail h i s.searched in_h input (state_at queue')
                (grown_word queue tail h i p in_queue low state s.word) state_old (old_word queue tail h i p in_queue low state s.word)
                (state_new ∙ is) (new_word queue tail h i p in_queue low state s.word) (λ j less. rw (← is) (s.placed.unmet p state new j less)));
          }

    -- however the state was put
    pub search_put : (queue'' places'' : List ℕ) (r : ℕ) → PutOf (get_or places p 0) queue places tail p (step_of h i) queue'' places'' r
        → Searching u queue'' places'' (step_of h (i + 1)) r × (h < r)
    search_put queue'' places'' r put = go (get_or places p 0) refl put
      where
        go : (place : ℕ) → get_or places p 0 ≡ place → PutOf place queue places tail p (step_of h i) queue'' places'' r → Searching u queue'' places'' (step_of h (i + 1)) r × (h < r)
        go (suc place) e (eq, ep, er) = rw (eq, ep, er) (put_met (omega arith), in_h)
        go zero e (eq, ep, er) = rw (eq, ep, er) (put_new e, omega arith)

  -- All steps have been taken.
  module _ (queue places : List ℕ) (h tail : ℕ) (s : Searching u queue places (step_of h 0) tail) (all : tail ≤ h) where
    accessed : (j : ℕ) → j < tail → access_word u (state_at queue j) ≡ some (s.word j)
    accessed j in_j =
        access_is u complete (state_at queue j) (s.word j)
        (searched_first u.inputs (unit u) few_inputs (state_at queue) s.word tail h s.searched all j in_j)

    entry_word_lem : (j : ℕ) → j < tail → entry_word u queue j ≡ s.word j
    entry_word_lem j in_j = rw (accessed j in_j)

    reached : (q : ℕ) → q < most_states → 0 < get_or places q 0 → access_word u q ≡ some (s.word (get_or places q 0 - 1))
    reached q below pos =
        let inside = s.placed.inside q below in
        rw (s.placed.met q below pos) at (accessed (get_or places q 0 - 1) (omega arith))

    not_reached : (q : ℕ) → q < most_states → get_or places q 0 ≡ 0 → access_word u q ≡ none
    unfolding access_word
    not_reached q below none_met =
        access_none complete q
        (λ w valid is.
        let (j, in_j, e) = searched_reaches u.inputs (unit u) few_inputs (state_at queue) s.word tail h s.searched all w valid in
        s.placed.unmet q below none_met j in_j (e ∙ is))

    first_empty : entry_word u queue 0 ≡ []
    first_empty = entry_word_lem 0 s.searched.some ∙ s.searched.start_word

    unmet_nothing : (q : ℕ) → q < most_states → nothing (access_word u q) ≡ eqb (get_or places q 0) 0
    unmet_nothing q below =
        elim (ℕ_discrete (get_or places q 0) 0) [
          | yes z ↦ rw (not_reached q below z, z)
          | no nz ↦ rw (reached q below (omega arith), ne_eqb (get_or places q 0) 0 nz)
        ]

    -- How many states were met.
    pub search_counted : tail ≡ length (reached_states u)
    unfolding has_place
    search_counted =
        s.counted
        ∙ ap length
        (keep_same (has_place places) (λ q. not (nothing (access_word u q))) (numbers u.states)
        (λ q m. ap not (sym (unmet_nothing q (omega (arith, (of_numbers 0 u.states m).1))))))

    pub search_done : Reaches u queue places
    search_done =
        record {
          tail = tail;
          room = s.room;
          few = omega (arith, s.few);
          some = s.searched.some;
          marks = record { table = s.table; asked = unmet_nothing };
          inside = s.placed.inside;
          spelt =
              record {
                falls = s.spelt.falls;
                start = first_empty;
                step = λ j some in_j.
                    let before = s.spelt.falls.earlier j some in_j in
                    entry_word_lem j in_j ∙ s.spelt.step j some in_j ∙ ap (λ (w : Word). w ++ (input_at queue j ∷ [])) (sym (entry_word_lem (parent_at queue j) (omega arith)));
              };
          words = λ q below.
              elim (ℕ_discrete (get_or places q 0) 0) [
                | yes z ↦ rw (not_reached q below z, z) (sym first_empty)
                | no nz ↦
                    let pos : 0 < get_or places q 0 = omega arith in
                    ap (λ p. word_of (access_word u p)) (sym (s.placed.met q below pos))
              ];
        }
