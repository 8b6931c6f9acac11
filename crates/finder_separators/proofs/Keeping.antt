-- Laws of the words that are kept: those at their first places are each word once.
use Prim.Native.Nat.{ℕ, zero, suc, ◌+◌, ◌<◌}
use native.Mathlib.Omega.{arith}
use mathlib.Core.Path.{◌≡◌, refl, sym, ap, ◌∙◌}
use mathlib.Core.Logic.{inl, inr}
use mathlib.Core.List.{List, [], ◌∷◌, ◌++◌, map, append_assoc, append-nil}
use mathlib.Core.Bool.{not}
use lib.ListN.{length, get_or, length-append}
use lib.Seq.{take_at}
use Rattle.rules.specs.Lists.{placed_from, keep}
use Rattle.rules.specs.Words.{Word, is_in}
use Rattle.rules.specs.Needed.{distinct}
use Rattle.rules.specs.Files.{UnitData}
use Rattle.rules.specs.Find.{found_separating}
use Rattle.reader.specs.declared.UnitShape.{UnitShape}
use Rattle.reader.specs.Standing.{UnitStands}
use Rattle.reader.specs.Places.{word_at, words_at}
use Rattle.theory.specs.Lists.{outcome, clash}
use Rattle.theory.specs.Words.{in_is_in, is_in_in}
use Rattle.theory.specs.Maximal.{distinct_new, distinct_known}
use Rattle.trie_filing.specs.Distinct.{is_first, firsts, FirstPlaces}
use Rattle.trie_filing.proofs.Once.{firsts_few, first_place}
use Rattle.finder_distances.specs.Rounds.{DistancesAt}
use Rattle.finder_spelling.specs.Spelt.{most_words, SpeltAt}
use Rattle.finder_spelling.proofs.Sized.{told_separating}
use Rattle.finder_separators.specs.Kept.{TextAt, words_from, KeptAt, SeparatorsAt}

-- Each word once, behind those that have been passed.
behind : (done rest : List Word) → distinct (done ++ rest) ≡ distinct done ++ map (λ (a : ℕ × Word). a.1) (keep (is_first (done ++ rest)) (placed_from (length done) rest))
behind done [] = rw (append-nil done) (sym (append-nil (distinct done)))
behind done (w ∷ rest) =
    let split : (done ++ (w ∷ [])) ++ rest ≡ done ++ (w ∷ rest) = append_assoc done (w ∷ []) rest in
    let more : length (done ++ (w ∷ [])) ≡ suc (length done) = length-append done (w ∷ []) ∙ omega arith in
    let later : distinct (done ++ (w ∷ rest)) ≡ distinct (done ++ (w ∷ [])) ++ map (λ (a : ℕ × Word). a.1) (keep (is_first (done ++ (w ∷ rest))) (placed_from (suc (length done)) rest)) =
    rw (split, more) at (behind (done ++ (w ∷ [])) rest) in
    let here : is_first (done ++ (w ∷ rest)) (length done, w) ≡ not (is_in w done) = rw (take_at done (w ∷ rest) (length done) refl) in
    elim (outcome (is_in w done)) [
      | inl known ↦ later ∙ rw (here, known, distinct_known w done (is_in_in known))
      | inr new ↦ later ∙ rw (here, new, distinct_new w done (λ m. clash (in_is_in m) new)) (append_assoc (distinct done) (w ∷ []) _)
    ]

firsts-distinct : (ws : List Word) → map (λ (a : ℕ × Word). a.1) (firsts ws) ≡ distinct ws
firsts-distinct ws = sym (behind [] ws)

-- the words at places, one by one
words_are : (text places : List ℕ) (l : List (ℕ × Word)) (j : ℕ) → ((i : ℕ) → i < length l → word_at text (get_or places (j + i) 0) ≡ (get_or l i (0, [])).1)
    → words_from text places j (length l) ≡ map (λ (a : ℕ × Word). a.1) l
unfolding words_from
words_are text places [] j at = refl
words_are text places (a ∷ l) j at =
    let here : word_at text (get_or places j 0) ≡ a.1 = let same : j + 0 ≡ j = omega arith in rw same at (at 0 (omega arith)) in
    let rest = words_are text places l (suc j) (λ i less. let same : j + suc i ≡ suc j + i = omega arith in rw same at (at (suc i) (omega arith))) in
    cc

pub kept_at : (text : List ℕ) (k count : ℕ) (numbers places : List ℕ) (n : ℕ) → TextAt text k count → length places ≡ most_words → FirstPlaces text 0 count numbers places n
    → KeptAt text count places n
kept_at text k count numbers places n at room once =
    let few = firsts_few text 0 count numbers places n once in
    let ws : List Word = words_at text 0 count in
    record {
      words = record { long = omega (arith, at.few); few = omega (arith, at.few); whole = λ j less. (first_place text 0 k count at.stand once j less).0 };
      kept =
          rw once.counted
          (words_are text places (firsts ws) 0
          (λ i less.
          let same : 0 + i ≡ i = omega arith in
          rw same (first_place text 0 k count at.stand once i (omega (arith, once.counted))).1)
          ∙ firsts-distinct ws);
    }

-- What was spelt is such a text, and what is kept of it are the separating words.
module _ (s : List ℕ) (x : UnitShape) (m text : List ℕ) (count : ℕ) (spelt : SpeltAt s x m text count) where
  pub spelt_text : TextAt text x.inputs count
  spelt_text = record { size = spelt.size; stand = spelt.stand; few = spelt.few; inputs = rw spelt.words spelt.inputs }

  pub kept_separators : (places : List ℕ) (n : ℕ) → KeptAt text count places n → SeparatorsAt s x m text places n
  kept_separators places n kept = record { words = kept.words; kept = kept.kept ∙ ap distinct spelt.words }

pub from_count : (text places : List ℕ) (j n : ℕ) → length (words_from text places j n) ≡ n
unfolding words_from
from_count text places j zero = refl
from_count text places j (suc n) = ap suc (from_count text places (suc j) n)

-- THE WORDS that are kept are those that the rules find.
module _ (s : List ℕ) (x : UnitShape) (u : UnitData) (m text places : List ℕ) (n : ℕ) (stands : UnitStands s x u) (distances : DistancesAt s x m)
    (separators : SeparatorsAt s x m text places n) where
  pub separators_found : words_from text places 0 n ≡ found_separating u
  separators_found = separators.kept ∙ told_separating s x u m stands distances
