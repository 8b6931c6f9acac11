-- The search for access words (document 02, L1): states are queued as they are met, each once, from 0 on, and the inputs of each entry are
-- tried in rising order. Then states are met in the order of words, by length and then by inputs, and the word by which a state was met is
-- its first access word. Laws for a program: `state j` is the state of entry j, `word j` the word by which it was met; a step is an
-- entry and an input as one number.
use Rattle.std.specs.Prelude.{ℕ, suc, ◌+◌, ◌*◌, ◌≤◌, ◌<◌, ◌≡◌, refl, ◌≢◌, [], ◌∷◌, ◌++◌}
use Rattle.std.proofs.Common.{arith, sym, ap, ◌∙◌, inl, inr, append_assoc, append-nil}
use Rattle.std.proofs.Math.Decide.{ℕ_discrete, dec_lt}
use Rattle.std.proofs.Math.Logic.Dec
use Rattle.rules.specs.Sizes.{most_inputs}
use Rattle.rules.specs.Words.{Word, Valid}
use Rattle.rules.specs.Machines.{Machine, Complete, after}
use Rattle.theory.specs.Count.{count-≤, count_less, pigeonhole}
use Rattle.theory.specs.Words.{valid_append}
use Rattle.theory.specs.Orders.{ByLength, AtMost, before_append, before_input, before_longer, at_most_append, at_most_transitive, at_most_not_after}
use Rattle.theory.specs.Machines.{after_append, after_small}
use Rattle.theory.specs.Access.{FirstAccess}

abbrev pub step_of : ℕ → ℕ → ℕ
step_of j i = j * most_inputs + i

-- an entry was met from an earlier one, by a step before `step`
pub record MetFrom (k : ℕ) (word : ℕ → Word) (step j : ℕ) : Type 0 where
  pub parent : ℕ
  pub input : ℕ
  pub earlier : parent < j
  pub small : input < k
  pub spelt : word j ≡ word parent ++ (input ∷ [])
  pub before : step_of parent input < step

-- an input at an entry leads to a state that is in the queue, met by a word that is no later
pub record Followed (M : Machine) (state : ℕ → ℕ) (word : ℕ → Word) (tail j i : ℕ) : Type 0 where
  pub place : ℕ
  pub inside : place < tail
  pub leads : state place ≡ M.next (state j) i
  pub no_later : AtMost (word place) (word j ++ (i ∷ []))

-- all steps before `step` have been taken, and `tail` states have been met
pub record Searched (k : ℕ) (M : Machine) (state : ℕ → ℕ) (word : ℕ → Word) (step tail : ℕ) : Type 0 where
  pub some : 0 < tail
  pub start : state 0 ≡ 0
  pub start_word : word 0 ≡ []
  pub valid : (j : ℕ) → j < tail → Valid k (word j)
  pub leads : (j : ℕ) → j < tail → after M 0 (word j) ≡ state j
  pub apart : (i j : ℕ) → i < j → j < tail → state i ≢ state j
  pub rises : (i j : ℕ) → i < j → j < tail → ByLength (word i) (word j)
  pub met : (j : ℕ) → 0 < j → j < tail → MetFrom k word step j
  pub followed : (j i : ℕ) → j < tail → i < k → step_of j i < step → Followed M state word tail j i

-- The queue starts with the state 0, met by the empty word.
pub searched_start : (k : ℕ) (M : Machine) (state : ℕ → ℕ) (word : ℕ → Word) → state 0 ≡ 0 → word 0 ≡ [] → Searched k M state word (step_of 0 0) 1
searched_start k M state word zero_state empty =
    record {
      some = omega arith;
      start = zero_state;
      start_word = empty;
      valid = λ j h. let z : j ≡ 0 = omega arith in rw (z, empty) tt;
      leads = λ j h. let z : j ≡ 0 = omega arith in rw (z, empty) (sym zero_state);
      apart = λ i j less h. absurd (omega arith);
      rises = λ i j less h. absurd (omega arith);
      met = λ j some h. absurd (omega arith);
      followed = λ j i h small less. absurd (omega arith);
    }

-- After the last input of an entry comes the first input of the next one.
pub searched_entry : (k : ℕ) (M : Machine) (state : ℕ → ℕ) (word : ℕ → Word) (h i tail : ℕ) → k ≤ most_inputs → k ≤ i → i ≤ k
    → Searched k M state word (step_of h i) tail → Searched k M state word (step_of (suc h) 0) tail
searched_entry k M state word h i tail few all most s =
    record {
      some = s.some;
      start = s.start;
      start_word = s.start_word;
      valid = s.valid;
      leads = s.leads;
      apart = s.apart;
      rises = s.rises;
      met = λ j some in_j.
          let m = s.met j some in_j in
          record { parent = m.parent; input = m.input; earlier = m.earlier; small = m.small; spelt = m.spelt; before = omega (arith, m.before) };
      followed = λ j b in_j low less. s.followed j b in_j low (omega arith);
    }

module _ (k : ℕ) (M : Machine) (few : k ≤ most_inputs) (state : ℕ → ℕ) (word : ℕ → Word) (tail : ℕ) where
  module _ (h i : ℕ) (s : Searched k M state word (step_of h i) tail) (in_h : h < tail) (input : i < k) where
    -- What has been met was met by a word that comes before the word of the step.
    met_before : (j : ℕ) → j < tail → ByLength (word j) (word h ++ (i ∷ []))
    met_before j in_j =
        elim (ℕ_discrete j 0) [
          | yes z ↦ rw (z, s.start_word) (before_longer [] (word h) i (omega arith))
          | no nz ↦ from (s.met j (omega arith) in_j)
        ]
      where
        from : MetFrom k word (step_of h i) j → ByLength (word j) (word h ++ (i ∷ []))
        from m =
            let less = m.before in
            let low = m.small in
            rw m.spelt
            (elim (ℕ_discrete m.parent h) [
              | yes e ↦ rw e (before_input (word h) m.input i (omega arith))
              | no ne ↦ before_append (word m.parent) (word h) (m.input ∷ []) (i ∷ []) (omega arith) (s.rises m.parent h (omega arith) in_h)
            ])

    met_more : (j : ℕ) → MetFrom k word (step_of h i) j → MetFrom k word (step_of h (suc i)) j
    met_more j m = record { parent = m.parent; input = m.input; earlier = m.earlier; small = m.small; spelt = m.spelt; before = omega (arith, m.before) }

    -- a step that is before the next one is an earlier one or this one
    this_step : (j b : ℕ) → b < k → ¬ (step_of j b < step_of h i) → step_of j b < step_of h (suc i) → (j ≡ h) × (b ≡ i)
    this_step j b low not_before less = (omega arith, omega arith)

    -- Where the step leads to a state that was met already, it is passed over.
    pub searched_met : (place : ℕ) → place < tail → state place ≡ M.next (state h) i → Searched k M state word (step_of h (suc i)) tail
    searched_met place inside leads =
        record {
          some = s.some;
          start = s.start;
          start_word = s.start_word;
          valid = s.valid;
          leads = s.leads;
          apart = s.apart;
          rises = s.rises;
          met = λ j some in_j. met_more j (s.met j some in_j);
          followed = λ j b in_j low less.
              elim (dec_lt (step_of j b) (step_of h i)) [
                | yes before ↦ s.followed j b in_j low before
                | no not_before ↦
                    let (ej, eb) = this_step j b low not_before less in
                    rw (ej, eb) (record { place = place; inside = inside; leads = leads; no_later = inr (met_before place inside) })
              ];
        }

    -- Another one is queued behind the others.
    module _ (state' : ℕ → ℕ) (word' : ℕ → Word) (old_state : (j : ℕ) → j < tail → state' j ≡ state j) (old_word : (j : ℕ) → j < tail → word' j ≡ word j)
        (new_state : state' tail ≡ M.next (state h) i) (new_word : word' tail ≡ word h ++ (i ∷ [])) (unmet : (j : ℕ) → j < tail → state j ≢ M.next (state h) i) where
      -- what holds of the old entries and of the new one holds of all
      entries : {P : ℕ → Type 0} → ((j : ℕ) → j < tail → P j) → P tail → (j : ℕ) → j < suc tail → P j
      entries old new j in_j = elim (ℕ_discrete j tail) [ yes e ↦ rw e new | no ne ↦ old j (omega arith) ]

      old_followed : (j b : ℕ) → j < tail → Followed M state word tail j b → Followed M state' word' (suc tail) j b
      old_followed j b in_j f =
          record {
            place = f.place;
            inside = omega (arith, f.inside);
            leads = rw (old_state f.place f.inside, old_state j in_j) f.leads;
            no_later = rw (old_word f.place f.inside, old_word j in_j) f.no_later;
          }

      pub searched_new : Searched k M state' word' (step_of h (suc i)) (suc tail)
      searched_new =
          record {
            some = omega arith;
            start = old_state 0 s.some ∙ s.start;
            start_word = old_word 0 s.some ∙ s.start_word;
            valid = entries (λ j in_j. rw (old_word j in_j) (s.valid j in_j)) (rw new_word (valid_append k (word h) (i ∷ []) (s.valid h in_h) (input, tt)));
            leads = entries
                (λ j in_j. rw (old_word j in_j, old_state j in_j) (s.leads j in_j))
                (rw (new_word, new_state, after_append M 0 (word h) (i ∷ [])) (ap (λ q. M.next q i) (s.leads h in_h)));
            apart = λ a j less in_j.
                elim (ℕ_discrete j tail) [
                  | yes e ↦ rw (e, new_state, old_state a (omega arith)) (unmet a (omega arith))
                  | no ne ↦ rw (old_state a (omega arith), old_state j (omega arith)) (s.apart a j less (omega arith))
                ];
            rises = λ a j less in_j.
                elim (ℕ_discrete j tail) [
                  | yes e ↦ rw (e, new_word, old_word a (omega arith)) (met_before a (omega arith))
                  | no ne ↦ rw (old_word a (omega arith), old_word j (omega arith)) (s.rises a j less (omega arith))
                ];
            met = λ j some in_j.
                elim (ℕ_discrete j tail) [
                  | yes e ↦
                      rw e
                      (record { parent = h; input = i; earlier = in_h; small = input; spelt = new_word ∙ ap (λ (w : Word). w ++ (i ∷ [])) (sym (old_word h in_h)); before = omega arith })
                  | no ne ↦
                      let old : j < tail = omega arith in
                      let m = s.met j some old in
                      record {
                        parent = m.parent;
                        input = m.input;
                        earlier = m.earlier;
                        small = m.small;
                        spelt = rw (old_word j old, old_word m.parent (omega (arith, m.earlier))) m.spelt;
                        before = omega (arith, m.before);
                      }
                ];
            followed = λ j b in_j low less.
                elim (dec_lt (step_of j b) (step_of h i)) [
                  | yes before ↦ let old : j < tail = omega arith in old_followed j b old (s.followed j b old low before)
                  | no not_before ↦
                      let (ej, eb) = this_step j b low not_before less in
                      rw (ej, eb)
                      (record {
                        place = tail;
                        inside = omega arith;
                        leads = rw (new_state, old_state h in_h);
                        no_later = inl (rw (new_word, old_word h in_h));
                      })
                ];
          }

  module _ (step : ℕ) (s : Searched k M state word step tail) where
    -- No state is queued twice,
    one_place : (i j : ℕ) → i < tail → j < tail → state i ≡ state j → i ≡ j
    one_place i j in_i in_j e =
        elim (ℕ_discrete i j) [
          | yes is ↦ is
          | no ne ↦ absurd (elim (dec_lt i j) [ yes less ↦ s.apart i j less in_j e | no more ↦ s.apart j i (omega arith) in_i (sym e) ])
        ]

    -- so there is room for one that has not been met.
    pub searched_room : Complete k M → (p : ℕ) → p < M.states → ((j : ℕ) → j < tail → state j ≢ p) → tail < M.states
    searched_room complete p small unmet =
        let met = pigeonhole other? M.states tail (λ j h. state j) state_small unmet one_place in
        omega (arith, count_less other? any? (λ q ne. tt) p (λ ne. ne refl) tt M.states small, count-≤ any? M.states)
      where
        any? : (q : ℕ) → Dec (Unit {0})
        any? q = yes tt

        other? : (q : ℕ) → Dec (q ≢ p)
        other? q = Dec.not (ℕ_discrete q p)

        state_small : (j : ℕ) → j < tail → state j < M.states
        state_small j in_j = rw (← (s.leads j in_j)) (after_small complete 0 (word j) complete.start (s.valid j in_j))

  -- Where all steps have been taken, every word leads to a state that has been met, by a word that is no later.
  module _ (h : ℕ) (s : Searched k M state word (step_of h 0) tail) (all : tail ≤ h) where
    follow : (v : Word) → Valid k v → (j : ℕ) → j < tail → (place : ℕ) × (place < tail) × (state place ≡ after M (state j) v) × AtMost (word place) (word j ++ v)
    follow [] valid j in_j = (j, in_j, refl, inl (sym (append-nil (word j))))
    follow (b ∷ v) (low, valid) j in_j =
        let f = s.followed j b in_j low (omega arith) in
        let (place, inside, leads, no_later) = follow v valid f.place f.inside in (
          place,
          inside,
          rw f.leads at leads,
          rw (← (append_assoc (word j) (b ∷ []) v))
              (at_most_transitive (word place) (word f.place ++ v) (word j ++ (b ∷ []) ++ v) no_later (at_most_append (word f.place) (word j ++ (b ∷ [])) v f.no_later)),
        )

    -- So a state that was not met is reached by no word of any length,
    pub searched_reaches : (v : Word) → Valid k v → (j : ℕ) × (j < tail) × (state j ≡ after M 0 v)
    searched_reaches v valid =
        let (place, inside, leads, no_later) = follow v valid 0 s.some in
        (place, inside, rw s.start at leads)

    -- and the word by which a state was met is its first access word.
    pub searched_first : (j : ℕ) → j < tail → FirstAccess k M (state j) (word j)
    searched_first j in_j =
        record {
          valid = s.valid j in_j;
          leads = s.leads j in_j;
          earlier = λ v valid before is.
              let (place, inside, leads, no_later) = follow v valid 0 s.some in
              let here : state place ≡ state j = (rw s.start at leads) ∙ is in
              let at_most : AtMost (word place) v = rw s.start_word at no_later in
              at_most_not_after (word j) v (rw (one_place (step_of h 0) s place j inside in_j here) at at_most) before;
        }
