-- What is read off the table of distances of a unit is what the rules look for (document 02, L1).
use Prim.Native.Nat.{ℕ, zero, suc, ◌-◌, ◌<◌}
use native.Mathlib.Omega.{arith}
use mathlib.Core.Path.{◌≡◌, refl, ◌∙◌, subst}
use mathlib.Core.List.{List}
use mathlib.Core.Option.{none, some}
use borrow.Author.Tests.{ne_eqb}
use lib.Dec.{eqb}
use Rattle.rules.specs.Machines.{Complete, machine_of}
use Rattle.rules.specs.Files.{UnitData, unit}
use Rattle.rules.specs.Needed.{pairs}
use Rattle.rules.specs.Find.{telling_word, nothing, word_of, untold}
use Rattle.reader.specs.declared.UnitShape.{UnitShape}
use Rattle.reader.specs.Standing.{UnitStands}
use Rattle.theory.specs.Lists.{first_same}
use Rattle.theory.specs.Machines.{golden_complete}
use Rattle.theory.specs.Access.{told_none}
use Rattle.theory.specs.Distances.{Marked, marked_end}
use Rattle.theory.specs.Sound.{of_pairs}
use Rattle.theory.specs.Find.{telling_is}
use Rattle.finder_distances.specs.Marks.{mark_of}
use Rattle.finder_distances.specs.Leads.{machine_of_unit}
use Rattle.finder_distances.specs.Rounds.{DistancesAt}
use Rattle.finder_telling.specs.Pairs.{untold_by, lowest_untold}
use Rattle.finder_telling.specs.Read.{read_off, telling_off}
use Rattle.finder_telling.proofs.Reading.{off_first}

module _ (s : List ℕ) (x : UnitShape) (u : UnitData) (stands : UnitStands s x u) where
  -- the machine that stands in the bytes is the unit's
  pub machine_is : machine_of_unit s x ≡ unit u
  machine_is = λ i. machine_of (stands.inputs i) (stands.states i) (stands.entries i)

  whole : Complete u.inputs (unit u)
  whole = golden_complete stands.sized.machine

  module _ (m : List ℕ) (distances : DistancesAt s x m) where
    marked : (p q : ℕ) → p < u.states → q < u.states → Marked u.inputs (unit u) (u.states - 1) p q (mark_of m p q)
    marked p q hp hq =
        subst (λ n. Marked u.inputs (unit u) (n - 1) p q (mark_of m p q)) stands.states
        (subst (λ k. Marked k (unit u) (x.states - 1) p q (mark_of m p q)) stands.inputs
        (subst (λ M. Marked x.inputs M (x.states - 1) p q (mark_of m p q)) machine_is
        (distances.marked p q (omega (arith, stands.states)) (omega (arith, stands.states)))))

    module _ (p q : ℕ) (two : p < q) (state : q < u.states) where
      -- without a distance there is no word, and with one there is what is read off
      none_is : mark_of m p q ≡ 0 → telling_word u (p, q) ≡ none
      unfolding telling_word
      none_is e =
          told_none whole p q (omega arith) state
          (marked_end u.inputs (unit u) whole p q (omega arith) state (rw e at (marked p q (omega arith) state)))

      some_is : (d : ℕ) → mark_of m p q ≡ suc d → telling_word u (p, q) ≡ some (read_off u.inputs (unit u) m (suc d) p q)
      some_is d e =
          telling_is u whole p q (read_off u.inputs (unit u) m (suc d) p q) two state
          (off_first u.inputs (unit u) whole m (u.states - 1) marked d p q (omega arith) state e)

      off_is : (d : ℕ) → mark_of m p q ≡ d → read_off u.inputs (unit u) m d p q ≡ word_of (telling_word u (p, q))
      off_is zero e = unfold read_off in rw (none_is e)
      off_is (suc d) e = rw (some_is d e)

      nothing_is : (d : ℕ) → mark_of m p q ≡ d → eqb d 0 ≡ nothing (telling_word u (p, q))
      nothing_is zero e = rw (none_is e)
      nothing_is (suc d) e = rw (some_is d e, ne_eqb (suc d) 0 (λ z. omega arith))

      -- THE WORD of two states is the rules';
      pub telling_off_lem : telling_off s x m p q ≡ word_of (telling_word u (p, q))
      telling_off_lem =
          (λ i. read_off (stands.inputs i) (machine_is i) m (mark_of m p q) p q) ∙ off_is (mark_of m p q) refl

    -- and so are THE LOWEST TWO that no word tells apart.
    pub lowest_untold_lem : lowest_untold x.states m ≡ untold u
    unfolding lowest_untold untold
    lowest_untold_lem =
        rw stands.states
        (first_same (untold_by m) (λ a. nothing (telling_word u a)) (pairs u.states)
        (λ (p, q) in_pairs. let (two, state) = of_pairs u.states in_pairs in nothing_is p q two state (mark_of m p q) refl))
