-- Laws of the loop over the tests.
use Prim.Native.Nat.{ℕ, ◌+◌, ◌-◌, ◌≤◌, ◌<◌}
use native.Mathlib.Omega.{arith}
use native.Mathlib.Nat.{sub-zero}
use native.Mathlib.Numerals.{add-one}
use mathlib.Core.Path.{◌≡◌, refl, sym, ◌∙◌, ap}
use mathlib.Core.List.{List, ◌∷◌}
use mathlib.Core.Bool.{Bool, true, false, cond}
use mathlib.Core.Option.{none, some}
use lib.ListN.{length}
use Rattle.std.proofs.Common.{Option as Found, Some, None}
use Rattle.rules.specs.declared.Ran.TheVariants.{Passes, Fails}
use Rattle.rules.specs.Lists.{first, placed_from}
use Rattle.rules.specs.Words.{Word, same}
use Rattle.rules.specs.Machines.{Machine, machine_of, answer}
use Rattle.rules.specs.Files.{golden, unit}
use Rattle.rules.specs.Operations.{first_difference, failing_of, run_answer}
use Rattle.reader.specs.declared.DossierShape.{DossierShape}
use Rattle.reader.specs.declared.UnitShape.{UnitShape}
use Rattle.reader.specs.Places.{machine_at, word_at, after_word, words_at, WordAt}
use Rattle.reader.specs.Turns.{WordTurn, word_turn, words_end, words_count}
use Rattle.walker.specs.Walks.{differ_at}
use Rattle.runner_trials.specs.Trials.{TrialAt, fails, TestsLeft}

-- what the first step at which two answers differ says of them
module _ (a b : List ℕ) where
  differ_at_lem : (j : ℕ) → Some j ≡ differ_at a b → (same a b ≡ false) × (first_difference a b ≡ j)
  unfolding differ_at
  differ_at_lem j is = go (same a b) refl is
    where
      go : (x : Bool) → same a b ≡ x → Some j ≡ cond x None (Some (first_difference a b)) → (same a b ≡ false) × (first_difference a b ≡ j)
      go true told e = cc
      go false told e = (told, cc)

  differ_nowhere : None ≡ differ_at a b → same a b ≡ true
  unfolding differ_at
  differ_nowhere is = go (same a b) refl is
    where
      go : (x : Bool) → same a b ≡ x → ◌≡◌ {A = Found ℕ} None (cond x None (Some (first_difference a b))) → same a b ≡ true
      go true told e = told
      go false told e = cc

module _ (s : List ℕ) (x : DossierShape) (t : List ℕ) (y : UnitShape) where
  pub tests_start : TrialAt s x t y → TestsLeft s x t y 0 x.tests
  tests_start g =
      record {
        given = g;
        within = omega arith;
        words = rw (sub-zero x.count) g.stands.tests;
        rest = rw (sub-zero x.count) (ap (λ (ws : List Word). first (fails g.trial) (placed_from 0 ws)) (sym g.stands.tests_words));
      }

  module _ (i p : ℕ) (left : TestsLeft s x t y i p) where
    pub tests_end : x.count ≤ i → Passes x.count ≡ run_answer s t
    tests_end done =
        let g = left.given in
        let none_left : x.count - i ≤ 0 = omega arith in
        let count : length g.trial.dossier.tests ≡ x.count = ap (λ (ws : List Word). length ws) (sym g.stands.tests_words) ∙ words_count s x.tests x.count in
        let passes : failing_of g.trial ≡ none = left.rest ∙ ap (λ (ws : List Word). first (fails g.trial) (placed_from i ws)) (words_end s p (x.count - i) none_left) in
        rw (g.runs, passes, count)

    module _ (more : i < x.count) where
      turn : WordTurn s p x.inputs (x.count - i)
      turn = word_turn s p x.inputs (x.count - i) (omega arith) left.words

      pub test_here : WordAt s p x.inputs
      test_here = turn.here

      -- the test at p is the number i of those that may fail
      rest_is : failing_of left.given.trial ≡ first (fails left.given.trial) (placed_from i (word_at s p ∷ words_at s (after_word s p) (x.count - i - 1)))
      rest_is = left.rest ∙ ap (λ (ws : List Word). first (fails left.given.trial) (placed_from i ws)) turn.words

      -- what golden and unit answer to it
      abbrev expected : List ℕ
      expected = answer (golden left.given.trial.dossier) (word_at s p)

      abbrev answered : List ℕ
      answered = answer (unit left.given.trial.unit) (word_at s p)

      -- M and N are the machines that stand in the bytes, r is where they first differ
      module _ (M N : Machine) (is_golden : M ≡ machine_at s x.table x.inputs x.states) (is_unit : N ≡ machine_at t y.table y.inputs y.states) (r : Found ℕ) (e : r ≡ differ_at (answer M (word_at s p)) (answer N (word_at s p))) where
        differ_is : r ≡ differ_at expected answered
        differ_is =
            let g = left.given in
            let golden_is : M ≡ golden g.trial.dossier = is_golden ∙ (λ j. machine_of (g.stands.inputs j) (g.stands.states j) (g.stands.entries j)) in
            let unit_is : N ≡ unit g.trial.unit = is_unit ∙ (λ j. machine_of (g.unit_stands.inputs j) (g.unit_stands.states j) (g.unit_stands.entries j)) in
            e ∙ (λ j. differ_at (answer (golden_is j) (word_at s p)) (answer (unit_is j) (word_at s p)))

        pub test_fails : (j : ℕ) → r ≡ Some j → Fails i j ≡ run_answer s t
        test_fails j is = go (differ_at_lem expected answered j (sym is ∙ differ_is))
          where
            go : (same expected answered ≡ false) × (first_difference expected answered ≡ j) → Fails i j ≡ run_answer s t
            go (unlike, step) =
                let found : failing_of left.given.trial ≡ some (i, word_at s p) = rest_is ∙ rw unlike in
                rw (left.given.runs, found, step)

        pub test_passes : (q : ℕ) → r ≡ None → q ≡ after_word s p → TestsLeft s x t y (i + 1) q
        test_passes q is place =
            let less : x.count - (i + 1) ≡ x.count - i - 1 = omega arith in
            record {
              given = left.given;
              within = omega arith;
              words = rw (less, place) turn.rest;
              rest = rest_is ∙ rw (differ_nowhere expected answered (sym is ∙ differ_is), less, place, add-one i);
            }
