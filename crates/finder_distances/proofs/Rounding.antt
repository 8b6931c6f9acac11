-- Laws of a round: what it does to one pair, how it starts and ends.
use Prim.Native.Nat.{ℕ, zero, suc, ◌+◌, ◌-◌, ◌≤◌, ◌<◌}
use native.Mathlib.Omega.{arith}
use native.Mathlib.Decide.{ℕ_discrete, dec_lt}
use native.Mathlib.Numerals.{add-one}
use mathlib.Core.Path.{◌≡◌, refl, sym, ap, ◌∙◌}
use mathlib.Core.Logic.{◌≢◌, ◌⊎◌, inl, inr}
use mathlib.Core.List.{List}
use mathlib.Core.Bool.{Bool, true, false, true≢false}
use mathlib.Core.Option.{Option, none, some}
use borrow.Author.Tests.{not-true, not-false, eqb-true, eqb-false}
use Rattle.rules.specs.Sizes.{most_states}
use Rattle.rules.specs.Lists.{first, numbers}
use Rattle.rules.specs.Machines.{Machine, Complete}
use Rattle.rules.specs.declared.Input.{Input}
use Rattle.reader.specs.declared.UnitShape.{UnitShape}
use Rattle.walker.proofs.Tables.{machine_complete}
use Rattle.theory.specs.Lists.{OneWay, first-none, first_least, in_numbers, of_numbers, numbers_rising}
use Rattle.theory.specs.Classes.{ToldWithin}
use Rattle.theory.specs.Distances.{Marked, told_output, outputs_alike, marked_start, marked_stays, marked_new, marked_none, marked_swap, marked_same, round_told, round_untold, marked_still}
use Rattle.std.specs.Prelude.{Option as Found, Some, None}
use Rattle.finder_distances.specs.Marks.{place_of, unmarked, mark_of, with_mark}
use Rattle.reader.specs.Standing.{UnitAt}
use Rattle.finder_distances.specs.Leads.{machine_of_unit, differs, nears, leads, lead_of}
use Rattle.finder_distances.specs.Rounds.{Midway, DistancesAt}
use Rattle.finder_distances.proofs.Marking.{unmarked_table, unmarked_none, with_table, with_here, with_mirrored, with_other}

-- the machine that stands in the bytes is complete
pub unit_whole : (s : List ℕ) (x : UnitShape) → UnitAt s x → Complete x.inputs (machine_of_unit s x)
unit_whole s x at = machine_complete s x.table x.inputs x.states at.table

-- what was found, or not, among the inputs
numbers_one_way : OneWay ◌<◌
numbers_one_way p q a b = omega arith

pub lead_some : (test : ℕ → Bool) (k : ℕ) (r : Found Input) (i : Input) → r ≡ lead_of (first test (numbers k)) → r ≡ Some i → first test (numbers k) ≡ some i.0
lead_some test k r i e is = go (first test (numbers k)) refl
  where
    go : (o : Option ℕ) → first test (numbers k) ≡ o → first test (numbers k) ≡ some i.0
    go none f = let z : ◌≡◌ {A = ℕ} 0 1 = cc (rw f at e) in absurd (omega arith)
    go (some j) f = let same : Some (record { 0 = j }) ≡ Some i = sym (rw f at e) ∙ is in f ∙ ap (λ (y : Input). some y.0) (cc)

pub lead_found : (test : ℕ → Bool) (k i : ℕ) → first test (numbers k) ≡ some i → (i < k) × (test i ≡ true) × ((j : ℕ) → j < i → test j ≡ false)
lead_found test k i e =
    let least = first_least ◌<◌ numbers_one_way test (numbers k) (numbers_rising 0 k) e in
    let (low, high) = of_numbers 0 k least.found in
    (omega arith, least.passes, λ j less. least.earlier j (in_numbers 0 k j (omega arith) (omega arith)) less)

pub lead_none : (test : ℕ → Bool) (k : ℕ) (r : Found Input) → r ≡ lead_of (first test (numbers k)) → r ≡ None → (i : ℕ) → i < k → test i ≡ false
lead_none test k r e is i less = first-none test (go (first test (numbers k)) refl) (in_numbers 0 k i (omega arith) (omega arith))
  where
    go : (o : Option ℕ) → first test (numbers k) ≡ o → first test (numbers k) ≡ none
    go none f = f
    go (some j) f = let z : ◌≡◌ {A = ℕ} 0 1 = cc (rw f at e) in absurd (omega arith)

module _ (k : ℕ) (M : Machine) (complete : Complete k M) (few : M.states ≤ most_states) where
  -- What holds of two states in order, the other way round and of a state with itself, holds of any two.
  each_way : (good : ℕ → ℕ → Type 0) → ((p q : ℕ) → p < q → q < M.states → good p q) → ((p q : ℕ) → p < q → q < M.states → good p q → good q p)
      → ((p : ℕ) → p < M.states → good p p) → (p q : ℕ) → p < M.states → q < M.states → good p q
  each_way good rising swapped itself p q hp hq =
      elim (dec_lt p q) [
        | yes less ↦ rising p q less hq
        | no not_less ↦
            elim (ℕ_discrete p q) [
              | yes e ↦ rw e (itself q hq)
              | no ne ↦ let more : q < p = omega arith in swapped q p more hp (rising q p more hp)
            ]
      ]

  module _ (r : ℕ) (m : List ℕ) where
    swap_marked : (here : ℕ) (changed : Bool) → Midway k M r here changed m → (n p q : ℕ) → p < q → q < M.states → Marked k M n p q (mark_of m p q) → Marked k M n q p (mark_of m q p)
    swap_marked here changed mid n p q less hq x = rw (mid.mirrored p q less hq) (marked_swap k M n p q _ x)

    -- In a round every pair, either way round, has the mark of this round or of the one before.
    either_marked : (here : ℕ) (changed : Bool) → Midway k M r here changed m → (p q : ℕ) → p < M.states → q < M.states
        → Marked k M r p q (mark_of m p q) ⊎ Marked k M (suc r) p q (mark_of m p q)
    either_marked here changed mid =
        each_way (λ p q. Marked k M r p q (mark_of m p q) ⊎ Marked k M (suc r) p q (mark_of m p q))
        (λ p q less hq. elim (dec_lt (place_of p q) here) [ yes before ↦ inr (mid.done p q less hq before) | no not_before ↦ inl (mid.left p q less hq (omega arith)) ])
        (λ p q less hq x.
        elim x [
          | inl old ↦ inl (swap_marked here changed mid r p q less hq old)
          | inr new ↦ inr (swap_marked here changed mid (suc r) p q less hq new)
        ])
        (λ p hp. inl (rw (mid.itself p hp) (marked_same k M r p)))

    -- A round that has got farther.
    moved : (here there : ℕ) (changed : Bool) → Midway k M r here changed m
        → ((p q : ℕ) → p < q → q < M.states → place_of p q < there → Marked k M (suc r) p q (mark_of m p q))
        → ((p q : ℕ) → p < q → q < M.states → there ≤ place_of p q → here ≤ place_of p q) → Midway k M r there changed m
    moved here there changed mid done later =
        record {
          table = mid.table;
          done = done;
          left = λ p q two h after. mid.left p q two h (later p q two h after);
          mirrored = mid.mirrored;
          itself = mid.itself;
          quiet = mid.quiet;
        }

  module _ (r : ℕ) (changed : Bool) (m : List ℕ) (p q : ℕ) (less : p < q) (state : q < M.states) (mid : Midway k M r (place_of p q) changed m) where
    next_marked : (i : ℕ) → i < k
        → Marked k M r (M.next p i) (M.next q i) (mark_of m (M.next p i) (M.next q i)) ⊎ Marked k M (suc r) (M.next p i) (M.next q i) (mark_of m (M.next p i) (M.next q i))
    next_marked i h =
        either_marked r m (place_of p q) changed mid (M.next p i) (M.next q i) (complete.closed p i (omega arith) h) (complete.closed q i state h)

    -- A pair with a lead is told apart in this round,
    lead_tells : (i : ℕ) → i < k → leads M m r p q i ≡ true → ToldWithin k M (suc r) p q
    unfolding differs nears
    lead_tells i h e = go r refl
      where
        go : (d : ℕ) → r ≡ d → ToldWithin k M (suc r) p q
        go zero is = let e' : differs M p q i ≡ true = rw is at e in rw is (told_output k M p q i h (eqb-false _ _ (not-true _ e')))
        go (suc d) is =
            let e' : nears M m (suc d) p q i ≡ true = rw is at e in
            round_told k M r p q i (mark_of m (M.next p i) (M.next q i)) (omega arith) h (next_marked i h) (eqb-true _ _ e' ∙ sym is)

    -- and one without is not.
    no_lead_tells : mark_of m p q ≡ 0 → ((i : ℕ) → i < k → leads M m r p q i ≡ false) → ¬ ToldWithin k M (suc r) p q
    unfolding differs nears
    no_lead_tells empty fails = go r refl
      where
        go : (d : ℕ) → r ≡ d → ¬ ToldWithin k M (suc r) p q
        go zero is =
            rw is
            (outputs_alike k M p q
            (λ i h. let e' : differs M p q i ≡ false = rw is at (fails i h) in eqb-true _ _ (not-false _ e')))
        go (suc d) is =
            round_untold k M r p q (omega arith) (rw empty at (mid.left p q less state (omega arith)))
            (λ i h.
            let e' : nears M m (suc d) p q i ≡ false = rw is at (fails i h) in
            (mark_of m (M.next p i) (M.next q i), next_marked i h, λ e. eqb-false _ _ e' (e ∙ is)))

    -- The pair has been looked at.
    looked_at : Marked k M (suc r) p q (mark_of m p q) → Midway k M r (place_of p (q + 1)) changed m
    looked_at here =
        moved r m (place_of p q) (place_of p (q + 1)) changed mid
        (λ a b two h before.
        elim (dec_lt (place_of a b) (place_of p q)) [
          | yes sooner ↦ mid.done a b two h sooner
          | no not_sooner ↦
              let is_a : a ≡ p = omega arith in
              let is_b : b ≡ q = omega arith in
              rw (is_a, is_b) here
        ])
        (λ a b two h after. omega arith)

    -- It had its distance;
    pair_known : mark_of m p q ≢ 0 → Midway k M r (place_of p (q + 1)) changed m
    pair_known known = looked_at (marked_stays k M r p q _ (omega arith) (mid.left p q less state (omega arith)))

    -- or it has none yet;
    pair_left : mark_of m p q ≡ 0 → ((i : ℕ) → i < k → leads M m r p q i ≡ false) → Midway k M r (place_of p (q + 1)) changed m
    pair_left empty fails = looked_at (rw empty (marked_none k M r p q (no_lead_tells empty fails)))

    -- or it gets the one of this round.
    pair_marked : mark_of m p q ≡ 0 → (i : ℕ) → i < k → leads M m r p q i ≡ true → Midway k M r (place_of p (q + 1)) true (with_mark m p q (suc r))
    pair_marked empty i h e =
        let told = lead_tells i h e in
        let new : List ℕ = with_mark m p q (suc r) in
        let small_p : p < most_states = omega arith in
        let small_q : q < most_states = omega arith in
        let other : (a b : ℕ) → a < b → b < M.states → ((a ≡ p) × (b ≡ q) → ⊥) → (mark_of new a b ≡ mark_of m a b) × (mark_of new b a ≡ mark_of m b a) = λ a b two hb ne. (
          with_other m mid.table p q (suc r) small_p small_q a b (λ e. ne (omega arith, omega arith)) (λ e. omega arith),
          with_other m mid.table p q (suc r) small_p small_q b a (λ e. omega arith) (λ e. ne (omega arith, omega arith)),
        ) in
        let here : Marked k M (suc r) p q (mark_of new p q) =
        rw (with_here m mid.table p q (suc r) small_p small_q less) (marked_new k M r p q (rw empty at (mid.left p q less state (omega arith))) told) in
        record {
          table = with_table m mid.table p q (suc r) small_p small_q;
          done = λ a b two hb before.
              elim (dec_lt (place_of a b) (place_of p q)) [
                | yes sooner ↦ rw (other a b two hb (λ (x, y). omega arith)).0 (mid.done a b two hb sooner)
                | no not_sooner ↦
                    let is_a : a ≡ p = omega arith in
                    let is_b : b ≡ q = omega arith in
                    rw (is_a, is_b) here
              ];
          left = λ a b two hb after. rw (other a b two hb (λ (x, y). omega arith)).0 (mid.left a b two hb (omega arith));
          mirrored = λ a b two hb.
              elim (ℕ_discrete (place_of a b) (place_of p q)) [
                | yes e ↦
                    let is_a : a ≡ p = omega arith in
                    let is_b : b ≡ q = omega arith in
                    rw (is_a, is_b, with_here m mid.table p q (suc r) small_p small_q less) (with_mirrored m mid.table p q (suc r) small_p small_q)
                | no ne ↦
                    let (one, two') = other a b two hb (λ (x, y). ne (omega arith)) in
                    two' ∙ mid.mirrored a b two hb ∙ sym one
              ];
          itself = λ a ha.
              with_other m mid.table p q (suc r) small_p small_q a a (λ e. omega arith) (λ e. omega arith) ∙ mid.itself a ha;
          quiet = λ e. absurd (true≢false e);
        }

    -- The same, as the program finds it.
    module _ (d : ℕ) (asked : d ≡ mark_of m p q) where
      pub known_pair : d ≢ 0 → Midway k M r (place_of p (q + 1)) changed m
      known_pair some' = pair_known (λ e. some' (asked ∙ e))

      module _ (empty : d ≡ 0) (found : Found Input) (search : found ≡ lead_of (first (leads M m r p q) (numbers k))) where
        pub left_pair : found ≡ None → Midway k M r (place_of p (q + 1)) changed m
        left_pair is = pair_left (sym asked ∙ empty) (lead_none (leads M m r p q) k found search is)

        pub marked_pair : (i : Input) (new : List ℕ) → found ≡ Some i → new ≡ with_mark m p q (r + 1) → Midway k M r (place_of p (q + 1)) true new
        marked_pair i new is e =
            let (h, passes, lower) = lead_found (leads M m r p q) k i.0 (lead_some (leads M m r p q) k found i search is) in
            rw (e, add-one r) (pair_marked (sym asked ∙ empty) i.0 h passes)

  -- A row starts behind its diagonal, and the next one where it ends.
  pub row_start : (r p q : ℕ) (changed : Bool) (m : List ℕ) → q ≡ p → Midway k M r (place_of p 0) changed m → Midway k M r (place_of p (q + 1)) changed m
  row_start r p q changed m is mid =
      moved r m (place_of p 0) (place_of p (q + 1)) changed mid (λ a b two h before. mid.done a b two h (omega arith)) (λ a b two h after. omega arith)

  pub row_end : (r p q : ℕ) (changed : Bool) (m : List ℕ) → M.states ≤ q → q ≤ M.states → Midway k M r (place_of p q) changed m → Midway k M r (place_of (p + 1) 0) changed m
  row_end r p q changed m over near mid =
      moved r m (place_of p q) (place_of (p + 1) 0) changed mid (λ a b two h before. mid.done a b two h (omega arith)) (λ a b two h after. omega arith)

  -- The first round starts with nothing marked, and the next one with what the round before left.
  pub first_round : Midway k M 0 0 false unmarked
  first_round =
      record {
        table = unmarked_table;
        done = λ p q two h before. absurd (omega arith);
        left = λ p q two h after. rw (unmarked_none p q (omega arith) (omega arith)) (marked_start k M p q);
        mirrored = λ p q two h. unmarked_none q p (omega arith) (omega arith) ∙ sym (unmarked_none p q (omega arith) (omega arith));
        itself = λ p h. unmarked_none p p (omega arith) (omega arith);
        quiet = λ e p q two h is. omega (arith, unmarked_none p q (omega arith) (omega arith));
      }

  module _ (r : ℕ) (m : List ℕ) where
    pub next_round : (changed : Bool) → Midway k M r (place_of M.states 0) changed m → Midway k M (suc r) 0 false m
    next_round changed mid =
        record {
          table = mid.table;
          done = λ p q two h before. absurd (omega arith);
          left = λ p q two h after. mid.done p q two h (omega arith);
          mirrored = mid.mirrored;
          itself = mid.itself;
          quiet = λ e p q two h is. let (le, d) = (mid.done p q two h (omega arith)).marked (omega arith) in omega arith;
        }

    -- Between two rounds every pair has the mark of the rounds so far.
    all_marked : Midway k M r 0 false m → (p q : ℕ) → p < M.states → q < M.states → Marked k M r p q (mark_of m p q)
    all_marked mid =
        each_way (λ p q. Marked k M r p q (mark_of m p q)) (λ p q less hq. mid.left p q less hq (omega arith)) (swap_marked r m 0 false mid r)
        (λ p hp. rw (mid.itself p hp) (marked_same k M r p))

    -- A round that changed nothing leaves no entry of its own.
    none_new : Midway k M r (place_of M.states 0) false m → (p q : ℕ) → p < M.states → q < M.states → mark_of m p q ≢ suc r
    none_new mid =
        each_way (λ p q. mark_of m p q ≢ suc r) (mid.quiet refl) (λ p q less hq other is. other (sym (mid.mirrored p q less hq) ∙ is))
        (λ p hp is. omega (arith, mid.itself p hp))

  -- Then later rounds change nothing.
  still : (m : ℕ → ℕ → ℕ) (r more : ℕ) → 0 < r → ((p q : ℕ) → p < M.states → q < M.states → Marked k M r p q (m p q) × (m p q ≢ r))
      → (p q : ℕ) → p < M.states → q < M.states → Marked k M (r + more) p q (m p q) × (m p q ≢ r + more)
  still m r zero some' at = let same : r + 0 ≡ r = omega arith in rw same at
  still m r (suc more) some' at =
      let same : r + suc more ≡ suc (r + more) = omega arith in
      rw same (marked_still k M complete (r + more) m (omega arith) (still m r more some' at))

  quiet_end : (r : ℕ) (m : List ℕ) → r < M.states - 1 → Midway k M r (place_of M.states 0) false m
      → (p q : ℕ) → p < M.states → q < M.states → Marked k M (M.states - 1) p q (mark_of m p q)
  quiet_end r m few_rounds mid p q hp hq =
      let enough : suc r + (M.states - 1 - suc r) ≡ M.states - 1 = omega arith in
      let after = all_marked (suc r) m (next_round r m false mid) in
      rw enough at
      (still (mark_of m) (suc r) (M.states - 1 - suc r) (omega arith) (λ a b ha hb. (after a b ha hb, none_new r m mid a b ha hb)) p q hp hq).0

-- The table of distances of a unit where it stands: a last round is over, or one that changed nothing.
module _ (s : List ℕ) (x : UnitShape) (at : UnitAt s x) (r : ℕ) (m : List ℕ) where
  abbrev M : Machine
  M = machine_of_unit s x

  pub rounds_over : x.states - 1 ≤ r → r ≤ x.states - 1 → Midway x.inputs M r 0 false m → DistancesAt s x m
  rounds_over low high mid =
      let is : r ≡ x.states - 1 = omega arith in
      record { table = mid.table; marked = rw is at (all_marked x.inputs M (unit_whole s x at) at.few_states r m mid) }

  pub rounds_quiet : r < x.states - 1 → Midway x.inputs M r (place_of x.states 0) false m → DistancesAt s x m
  rounds_quiet less mid = record { table = mid.table; marked = quiet_end x.inputs M (unit_whole s x at) at.few_states r m less mid }
