-- Laws of the search: it starts with the pair of the states 0, and each step takes it one further.
use Prim.Native.Nat.{ℕ, ◌+◌, ◌≤◌, ◌<◌}
use native.Mathlib.Omega.{arith}
use native.Mathlib.Decide.{ℕ_discrete, dec_lt}
use mathlib.Core.Path.{◌≡◌, refl, sym, ap, ◌∙◌}
use mathlib.Core.Logic.{inl, inr}
use mathlib.Core.List.{List, [], ◌∷◌, ◌++◌}
use mathlib.Core.Bool.{Bool, true, false, false≢true}
use lib.ListN.{length, set, length-set}
use lib.Seq.{get_or-set_same}
use Rattle.rules.specs.Sizes.{most_inputs}
use Rattle.rules.specs.Words.{Word}
use Rattle.rules.specs.Machines.{Machine}
use Rattle.comparer_pairs.specs.Pairs.{pairs, golden_says, unit_says, next_pair}
use Rattle.comparer_pairs.specs.Marks.{unmarked, met, with_mark}
use Rattle.comparer_pairs.specs.Queue.{step_of, entry_of, pair_at, parent_at, input_at, word_to}
use Rattle.comparer_search.specs.Search.{Followed, Searchable, Searched, PutOf}
use Rattle.comparer_pairs.proofs.Marking.{table_start, none_met, table_kept, met_other, unmet_all, unmet_less}
use Rattle.theory.specs.Orders.{ByLength, before_append, before_input, before_longer}
use Rattle.comparer_pairs.proofs.Spelled.{step_is, input_small, word_start, word_next, new_pair, new_step, old_pair, old_step, old_word, falls_more, new_word}
use Rattle.comparer_search.proofs.Leading.{next_pair_small, leads_more}

module _ (k : ℕ) (G U : Machine) (able : Searchable k G U) (marks queue : List ℕ) (step tail : ℕ) (s : Searched k G U marks queue step tail) where
  -- the steps rise as their words do
  pub steps_rise : (j b h i : ℕ) → j < tail → h < tail → b < most_inputs → i < most_inputs → step_of j b < step_of h i → ByLength (word_to queue j ++ (b ∷ [])) (word_to queue h ++ (i ∷ []))
  steps_rise j b h i in_j in_h low low' less =
      elim (ℕ_discrete j h) [
        | yes e ↦ rw e (before_input (word_to queue h) b i (omega arith))
        | no ne ↦ before_append (word_to queue j) (word_to queue h) (b ∷ []) (i ∷ []) (omega arith) (s.rises j h (omega arith) in_h)
      ]

  -- what has been met was met by a word that comes before the word of the step
  pub met_before : (h i : ℕ) → step ≡ step_of h i → h < tail → i < most_inputs → (j : ℕ) → j < tail → ByLength (word_to queue j) (word_to queue h ++ (i ∷ []))
  met_before h i e in_h low j in_j =
      elim (ℕ_discrete j 0) [
        | yes z ↦ rw (z, word_start queue) (before_longer [] (word_to queue h) i (omega arith))
        | no nz ↦
            let some : 0 < j = omega arith in
            let earlier = s.falls.earlier j some in_j in
            rw (word_next queue tail s.falls j some in_j) (steps_rise (parent_at queue j) (input_at queue j) h i (omega arith) in_h (input_small queue j) low (omega (arith, step_is queue j, s.before j some in_j)))
      ]

  -- a step that is not before another, and is before the next one, is that step
  step_last : (j b h i : ℕ) → b < most_inputs → i < most_inputs → ¬ (step_of j b < step_of h i) → step_of j b < step_of h i + 1 → (j ≡ h) × (b ≡ i)
  step_last j b h i low low' not_less less = (omega arith, omega arith)

  module _ (h i p : ℕ) (is_step : step ≡ step_of h i) (in_h : h < tail) (input : i < k) (same : golden_says G (pair_at queue h) i ≡ unit_says U (pair_at queue h) i) (is : p ≡ next_pair G U (pair_at queue h) i) where
    low : i < most_inputs
    low = omega (arith, able.few_inputs)

    -- there is room for a pair that has not been met
    pub put_room : met marks p ≡ false → tail < pairs
    put_room new =
        omega (arith, s.counted, unmet_less marks p pairs s.table (rw is (next_pair_small k G U able (word_to queue h) (pair_at queue h) i (s.leads h in_h) input)) (omega arith) new)

    -- the step leads to a pair that was met already
    pub searched_met : met marks p ≡ true → Searched k G U marks queue (step_of h (i + 1)) tail
    searched_met old =
        let small : p < pairs = rw is (next_pair_small k G U able (word_to queue h) (pair_at queue h) i (s.leads h in_h) input) in
        let (place, inside, pair) = s.queued p small old in
        record {
          table = s.table;
          room = s.room;
          counted = s.counted;
          some = s.some;
          start = s.start;
          falls = s.falls;
          leads = s.leads;
          before = λ j some in_j. omega (arith, s.before j some in_j);
          rises = s.rises;
          queued = s.queued;
          followed = λ j b in_j b_low less.
              elim (dec_lt (step_of j b) step) [
                | yes before ↦ s.followed j b in_j b_low before
                | no not_before ↦
                    let (ej, eb) = step_last j b h i (omega (arith, able.few_inputs)) low (λ l. not_before (omega arith)) (omega arith) in
                    rw (ej, eb) (record { same = same; place = place; inside = inside; pair = pair ∙ is; no_later = inr (met_before h i is_step in_h low place inside) })
              ];
        }

    -- the step leads to a new pair, which is queued behind the others
    module _ (new : met marks p ≡ false) where
      abbrev grown : List ℕ
      grown = set queue tail (entry_of (step_of h i) p)

      small : p < pairs
      small = rw is (next_pair_small k G U able (word_to queue h) (pair_at queue h) i (s.leads h in_h) input)

      inside : tail < length queue
      inside = omega (arith, put_room new, s.room)

      word_old : (j : ℕ) → j < tail → word_to grown j ≡ word_to queue j
      word_old = old_word queue tail h i p inside low small s.falls

      pair_old : (j : ℕ) → j < tail → pair_at grown j ≡ pair_at queue j
      pair_old j = old_pair queue tail h i p inside low small j

      word_last : word_to grown tail ≡ word_to queue h ++ (i ∷ [])
      word_last = new_word queue tail h i p inside low small s.falls s.some in_h

      pair_last : pair_at grown tail ≡ p
      pair_last = new_pair queue tail h i p inside low small

      followed_old : (j b : ℕ) → j < tail → Followed G U queue tail j b → Followed G U grown (tail + 1) j b
      followed_old j b in_j f =
          record {
            same = rw (pair_old j in_j) f.same;
            place = f.place;
            inside = omega (arith, f.inside);
            pair = pair_old f.place f.inside ∙ f.pair ∙ ap (λ q. next_pair G U q b) (sym (pair_old j in_j));
            no_later = rw (word_old f.place f.inside, word_old j in_j) f.no_later;
          }

      followed_last : Followed G U grown (tail + 1) h i
      followed_last =
          record {
            same = rw (pair_old h in_h) same;
            place = tail;
            inside = omega arith;
            pair = pair_last ∙ is ∙ ap (λ q. next_pair G U q i) (sym (pair_old h in_h));
            no_later = inl (word_last ∙ ap (λ (w : Word). w ++ (i ∷ [])) (sym (word_old h in_h)));
          }

      searched_new : Searched k G U (with_mark marks p) grown (step_of h (i + 1)) (tail + 1)
      searched_new =
          record {
            table = table_kept marks p s.table;
            room = simp length-set s.room;
            counted = omega (arith, s.counted, unmet_less marks p pairs s.table small (omega arith) new);
            some = omega arith;
            start = pair_old 0 s.some ∙ s.start;
            falls = falls_more queue tail h i p inside low small s.falls in_h;
            leads = λ j in_j.
                elim (dec_lt j tail) [
                  | yes less ↦ rw (word_old j less, pair_old j less) (s.leads j less)
                  | no not_less ↦
                      let e : j ≡ tail = omega arith in
                      rw (e, word_last, pair_last, is) (leads_more k G U able (word_to queue h) (pair_at queue h) i (s.leads h in_h) input same)
                ];
            before = λ j some in_j.
                elim (dec_lt j tail) [
                  | yes less ↦ rw (old_step queue tail h i p inside low small j less) (omega (arith, s.before j some less))
                  | no not_less ↦ let e : j ≡ tail = omega arith in rw (e, new_step queue tail h i p inside low small) (omega arith)
                ];
            rises = λ a j less in_j.
                elim (dec_lt j tail) [
                  | yes old ↦ rw (word_old a (omega arith), word_old j old) (s.rises a j less old)
                  | no not_old ↦
                      let e : j ≡ tail = omega arith in
                      let in_a : a < tail = omega arith in
                      rw (e, word_old a in_a, word_last) (met_before h i is_step in_h low a in_a)
                ];
            queued = λ q q_small is_met.
                elim (ℕ_discrete q p) [
                  | yes e ↦ (tail, omega arith, pair_last ∙ sym e)
                  | no ne ↦
                      let (j, in_j, pair) = s.queued q q_small (sym (met_other marks p q ne) ∙ is_met) in
                      (j, omega arith, pair_old j in_j ∙ pair)
                ];
            followed = λ j b in_j b_low less.
                elim (dec_lt (step_of j b) step) [
                  | yes before ↦ let old : j < tail = omega arith in followed_old j b old (s.followed j b old b_low before)
                  | no not_before ↦
                      let (ej, eb) = step_last j b h i (omega (arith, able.few_inputs)) low (λ l. not_before (omega arith)) (omega arith) in
                      rw (ej, eb) followed_last
                ];
          }

    -- however the pair was put
    pub searched_put : tail ≤ pairs → (marks' queue' : List ℕ) (r : ℕ) → PutOf (met marks p) marks queue tail p (step_of h i) marks' queue' r
        → Searched k G U marks' queue' (step_of h (i + 1)) r × (h < r) × (r ≤ pairs)
    searched_put few marks' queue' r put = go (met marks p) refl put
      where
        go : (b : Bool) → met marks p ≡ b → PutOf b marks queue tail p (step_of h i) marks' queue' r → Searched k G U marks' queue' (step_of h (i + 1)) r × (h < r) × (r ≤ pairs)
        go true old (em, eq, er) = rw (em, eq, er) (searched_met old, in_h, few)
        go false new (em, eq, er) = rw (em, eq, er) (searched_new new, omega arith, omega (arith, put_room new))

-- the queue starts with the pair of the states 0, met by the empty word
pub searched_start : (k : ℕ) (G U : Machine) (marks queue : List ℕ) → length queue ≡ pairs → marks ≡ with_mark unmarked 0 → Searched k G U marks (set queue 0 0) (step_of 0 0) 1
unfolding pair_at
searched_start k G U marks queue room e =
    let inside : 0 < length queue = omega arith in
    let first : pair_at (set queue 0 0) 0 ≡ 0 = rw (get_or-set_same queue 0 0 0 inside) in
    record {
      table = rw e (table_kept unmarked 0 table_start);
      room = simp length-set room;
      counted = rw e (omega (arith, unmet_less unmarked 0 pairs table_start (omega arith) (omega arith) (none_met 0 (omega arith)), unmet_all pairs (omega arith)));
      some = omega arith;
      start = first;
      falls = record { earlier = λ j some h. absurd (omega arith) };
      leads = λ j h. let z : j ≡ 0 = omega arith in rw (z, first, word_start (set queue 0 0)) (record { valid = tt; golden = refl; unit = refl; alike = refl });
      before = λ j some h. absurd (omega arith);
      rises = λ i j less h. absurd (omega arith);
      queued = λ p small is_met.
          elim (ℕ_discrete p 0) [
            | yes z ↦ (0, omega arith, first ∙ sym z)
            | no nz ↦ absurd (false≢true (sym (none_met p small) ∙ sym (met_other unmarked 0 p nz) ∙ (rw e at is_met)))
          ];
      followed = λ j i h low less. absurd (omega arith);
    }

-- after the last input of an entry comes the first input of the next one
pub searched_entry : (k : ℕ) (G U : Machine) (marks queue : List ℕ) (h i tail : ℕ) → k ≤ most_inputs → k ≤ i → i ≤ k → Searched k G U marks queue (step_of h i) tail → Searched k G U marks queue (step_of (h + 1) 0) tail
searched_entry k G U marks queue h i tail few all most s =
    record {
      table = s.table;
      room = s.room;
      counted = s.counted;
      some = s.some;
      start = s.start;
      falls = s.falls;
      leads = s.leads;
      before = λ j some in_j. omega (arith, s.before j some in_j);
      rises = s.rises;
      queued = s.queued;
      followed = λ j b in_j low less. s.followed j b in_j low (omega arith);
    }
