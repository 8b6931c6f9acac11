-- Laws of all states, one after the other: the lowest that has no access word, and the access words.
use Prim.Native.Nat.{ℕ, suc, ◌+◌, ◌-◌, ◌≤◌, ◌<◌}
use native.Mathlib.Omega.{arith}
use native.Mathlib.Numerals.{add-one}
use mathlib.Core.Path.{◌≡◌, sym, ap, ◌∙◌}
use mathlib.Core.List.{List, [], ◌++◌, map, flat_map}
use mathlib.Core.Bool.{Bool}
use mathlib.Core.Option.{none, some}
use borrow.Author.Tests.{eq-eqb, ne_eqb}
use lib.ListN.{length, get_or, length-append}
use lib.Seq.{sets}
use Rattle.rules.specs.Sizes.{most_states}
use Rattle.rules.specs.Lists.{first, numbers_from}
use Rattle.rules.specs.Files.{UnitData, word_bytes}
use Rattle.rules.specs.Find.{access_word, nothing, unreachable, found_cover}
use Rattle.soundness_reach.proofs.Marks.{lowest_start, lowest_here, lowest_next, lowest_none}
use Rattle.theory.specs.Wrote.{Wrote, sets_append}
use Rattle.finder_access.specs.Reached.{word_to, Marks}
use Rattle.finder_access.proofs.Backwards.{word_bytes_length}

-- whether a state has no access word
abbrev pub lacking : UnitData → ℕ → Bool
lacking u q = nothing (access_word u q)

module _ (u : UnitData) (n : ℕ) where
  pub lowest_lacking : u.states ≡ n → unreachable u ≡ first (lacking u) (numbers_from 0 (n - 0))
  unfolding unreachable
  lowest_lacking e = rw (← e) (lowest_start (lacking u) u.states)

  pub lacks_none : (q : ℕ) → n ≤ q → first (lacking u) (numbers_from q (n - q)) ≡ none
  lacks_none q all = lowest_none (lacking u) n q all

-- the place of a state was looked up at i
module _ (u : UnitData) (places : List ℕ) (marks : Marks u places) (q i n : ℕ) (few : n ≤ most_states) (less : q < n) (at : i ≡ q) where
  pub lacks_here : get_or places i 0 ≡ 0 → first (lacking u) (numbers_from q (n - q)) ≡ some q
  lacks_here unmet = lowest_here (lacking u) n q less (marks.asked q (omega arith) ∙ eq-eqb (get_or places q 0) 0 (rw at at unmet))

  pub lacks_later : 0 < get_or places i 0 → first (lacking u) (numbers_from q (n - q)) ≡ first (lacking u) (numbers_from (q + 1) (n - (q + 1)))
  lacks_later met =
      let here : 0 < get_or places q 0 = rw at at met in
      lowest_next (lacking u) n q less (marks.asked q (omega arith) ∙ ne_eqb (get_or places q 0) 0 (λ z. omega arith))

-- the bytes of the words of n states from the state q on
unfoldable pub bytes_from : UnitData → ℕ → ℕ → List ℕ
bytes_from u q n = flat_map word_bytes (map (word_to u) (numbers_from q n))

module _ (u : UnitData) (n : ℕ) where
  pub cover_start : u.states ≡ n → bytes_from u 0 (n - 0) ≡ flat_map word_bytes (found_cover u)
  unfolding bytes_from found_cover
  cover_start e = let same : n - 0 ≡ u.states = omega arith in rw same

  module _ (q : ℕ) where
    pub cover_end : n ≤ q → bytes_from u q (n - q) ≡ []
    unfolding bytes_from flat_map
    cover_end all = let none : n - q ≡ 0 = omega arith in rw none

    module _ (less : q < n) where
      cover_next : bytes_from u q (n - q) ≡ word_bytes (word_to u q) ++ bytes_from u (q + 1) (n - (q + 1))
      unfolding bytes_from flat_map
      cover_next = let more : n - q ≡ suc (n - (q + 1)) = omega arith in rw (more, ← add-one q)

      pub cover_longer : length (bytes_from u q (n - q)) ≡ length (word_to u q) + 1 + length (bytes_from u (q + 1) (n - (q + 1)))
      cover_longer =
          ap length cover_next
          ∙ length-append (word_bytes (word_to u q)) (bytes_from u (q + 1) (n - (q + 1)))
          ∙ ap (λ l. l + length (bytes_from u (q + 1) (n - (q + 1)))) (word_bytes_length (word_to u q))

      pub cover_written : (out left : List ℕ) (at next : ℕ) → Wrote out at (word_bytes (word_to u q)) left next
          → sets left next (bytes_from u (q + 1) (n - (q + 1))) ≡ sets out at (bytes_from u q (n - q))
      cover_written out left at next wrote =
          rw (wrote.same, wrote.place)
          (sym (sets_append out at (word_bytes (word_to u q)) (bytes_from u (q + 1) (n - (q + 1)))) ∙ ap (λ (l : List ℕ). sets out at l) (sym cover_next))
