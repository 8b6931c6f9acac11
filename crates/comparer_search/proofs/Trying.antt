-- Laws of a try: what the search may ask before it takes a step, and what it has after it.
use Prim.Native.Nat.{ℕ, ◌+◌, ◌≤◌, ◌<◌}
use native.Mathlib.Omega.{arith}
use mathlib.Core.Path.{◌≡◌, refl, sym, ap, ◌∙◌}
use mathlib.Core.List.{List}
use mathlib.Core.Bool.{Bool, true, false}
use lib.ListN.{length, set}
use Rattle.rules.specs.declared.Input.{Input}
use Rattle.rules.specs.Sizes.{most_inputs}
use Rattle.rules.specs.Machines.{Machine}
use Rattle.walker.proofs.Tables.{machine_complete}
use Rattle.theory.specs.Compare.{Equal}
use Rattle.comparer_pairs.specs.declared.Sides.{Sides}
use Rattle.std.specs.Prelude.{Option, Some, None, Result, Ok, Err}
use Rattle.comparer_pairs.specs.Pairs.{pairs, look_at, Pair}
use Rattle.comparer_pairs.specs.Marks.{MarkTable, met, with_mark}
use Rattle.comparer_pairs.specs.Queue.{step_of, entry_of, pair_at, word_to}
use Rattle.comparer_pairs.specs.Sides.{golden_at, unit_at}
use Rattle.comparer_search.specs.Search.{Searchable, Searched, Tells, ProgressOf, PutOf}
use Rattle.comparer_pairs.proofs.Looks.{seen_apart, seen_next}
use Rattle.comparer_search.proofs.Leading.{leads_small, next_pair_small}
use Rattle.comparer_search.proofs.Searching.{put_room, searched_put, searched_entry}
use Rattle.comparer_search.proofs.Telling.{searched_equal, searched_tells}

module _ (marks queue : List ℕ) (tail p step : ℕ) (b : Bool) (asked : b ≡ met marks p) where
  pub put_met : b ≡ true → PutOf (met marks p) marks queue tail p step marks queue tail
  put_met is = rw (sym asked ∙ is) (refl, refl, refl)

  pub put_new : b ≡ false → (marks' : List ℕ) (v : ℕ) → marks' ≡ with_mark marks p → v ≡ entry_of step p → PutOf (met marks p) marks queue tail p step marks' (set queue tail v) (tail + 1)
  put_new is marks' v em ev = rw (sym asked ∙ is) (em, ap (set queue tail) ev, refl)

module _ (x : Sides) where
  abbrev G : Machine
  G = golden_at x

  abbrev U : Machine
  U = unit_at x

  able : Searchable x.inputs G U
  able =
      record {
        golden = machine_complete x.dossier.now x.table x.inputs x.states x.golden_stands;
        unit = machine_complete x.unit.now x.utable x.inputs x.units x.unit_stands;
        few_inputs = x.comparable.few_inputs;
        few_states = x.comparable.few_states;
        few_units = x.comparable.few_units;
      }

  -- all inputs of an entry have been tried
  pub entry_tried : (marks queue : List ℕ) (h i tail : ℕ) → x.inputs ≤ i → i ≤ x.inputs → Searched x.inputs G U marks queue (step_of h i) tail → Searched x.inputs G U marks queue (step_of (h + 1) 0) tail
  entry_tried marks queue h i tail = searched_entry x.inputs G U marks queue h i tail x.comparable.few_inputs

  -- all entries have been tried
  pub all_tried : (marks queue : List ℕ) (h tail : ℕ) → tail ≤ h → Searched x.inputs G U marks queue (step_of h 0) tail → Equal x.inputs G U
  all_tried marks queue h tail all s = searched_equal x.inputs G U able marks queue (step_of h 0) tail s (omega arith)

  module _ (marks queue : List ℕ) (h i tail : ℕ) (s : Searched x.inputs G U marks queue (step_of h i) tail) (in_h : h < tail) (few : tail ≤ pairs) (input : i < x.inputs)
      (p : ℕ) (here : p ≡ pair_at queue h) where
    pub try_pair : Pair x.states x.units p
    try_pair = rw here (leads_small x.inputs G U able (word_to queue h) (pair_at queue h) (s.leads h in_h))

    module _ (r : Option ℕ) (looked : r ≡ look_at G U p i) where
      looked_here : r ≡ look_at G U (pair_at queue h) i
      looked_here = looked ∙ ap (λ q. look_at G U q i) here

      pub try_tells : r ≡ None → Tells x.inputs G U queue h i
      try_tells is = searched_tells x.inputs G U able marks queue (step_of h i) tail s h i refl in_h input (seen_apart G U (pair_at queue h) i r looked_here is) few

      module _ (n : ℕ) (is : r ≡ Some n) where
        pub try_room : (MarkTable marks × (length queue ≡ pairs)) × (((n < pairs) × (h < pairs) × (i < most_inputs)) × (met marks n ≡ false → tail < pairs))
        try_room =
            let (same, next) = seen_next G U (pair_at queue h) i r looked_here n is in (
              (s.table, s.room),
              (
                (rw next (next_pair_small x.inputs G U able (word_to queue h) (pair_at queue h) i (s.leads h in_h) input), omega arith, omega (arith, x.comparable.few_inputs)),
                put_room x.inputs G U able marks queue (step_of h i) tail s h i n refl in_h input same next,
              ),
            )

        pub try_put : (marks' queue' : List ℕ) (tail' : ℕ) → PutOf (met marks n) marks queue tail n (step_of h i) marks' queue' tail'
            → Searched x.inputs G U marks' queue' (step_of h (i + 1)) tail' × (h < tail') × (tail' ≤ pairs)
        try_put =
            let (same, next) = seen_next G U (pair_at queue h) i r looked_here n is in
            searched_put x.inputs G U able marks queue (step_of h i) tail s h i n refl in_h input same next few

-- what a try came to
module _ (k : ℕ) (G U : Machine) (marks queue : List ℕ) (h step : ℕ) (r : Result ℕ Input) (progress : ProgressOf k G U marks queue h step r) where
  pub progress_told : (i : Input) → r ≡ Err i → Tells k G U queue h i.0
  progress_told i is = rw is at progress

  pub progress_upto : (tail : ℕ) → r ≡ Ok tail → Searched k G U marks queue step tail × (h < tail) × (tail ≤ pairs)
  progress_upto tail is = rw is at progress
