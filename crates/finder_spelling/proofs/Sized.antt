-- Laws of the words of all pairs: they are over the unit's inputs, and there is room for them.
use Prim.Native.Nat.{ℕ, suc, ◌-◌, ◌≤◌, ◌<◌}
use native.Mathlib.Omega.{arith}
use mathlib.Core.Path.{◌≡◌, refl, sym, ap, ◌∙◌}
use mathlib.Core.Logic.{◌≢◌, inl, inr}
use mathlib.Core.List.Memᴰ
use mathlib.Core.List.{List, [], ◌∷◌, map, flat_map, map-map}
use mathlib.Core.Bool.{cond}
use borrow.Author.Tests.{eq-eqb, ne_eqb}
use lib.Dec.{eqb}
use lib.ListN.{length, set, length-map}
use Rattle.rules.specs.Lists.{◌∈◌, sum}
use Rattle.rules.specs.Words.{Word, Valid}
use Rattle.rules.specs.Machines.{Machine}
use Rattle.rules.specs.Files.{UnitData, word_bytes}
use Rattle.rules.specs.Needed.{pairs, distinct}
use Rattle.rules.specs.Find.{telling_word, word_of, found_separating}
use Rattle.reader.specs.declared.UnitShape.{UnitShape}
use Rattle.reader.specs.Standing.{UnitStands, UnitAt}
use Rattle.theory.specs.Lists.{outcome}
use Rattle.theory.specs.Sound.{of_pairs}
use Rattle.theory.specs.Access.{FirstTold}
use Rattle.theory.specs.Bounds.{words_long}
use Rattle.theory.specs.FoundSize.{few_inputs, most_inputs_lem, most_pairs}
use Rattle.finder_distances.specs.Marks.{mark_of}
use Rattle.finder_distances.specs.Leads.{machine_of_unit}
use Rattle.finder_distances.specs.Rounds.{DistancesAt}
use Rattle.finder_distances.proofs.Rounding.{unit_whole}
use Rattle.finder_telling.specs.Pairs.{AllTold}
use Rattle.finder_telling.specs.Read.{telling_off}
use Rattle.theory.specs.Wrote.{Wrote, wrote_byte, wrote_size}
use Rattle.finder_telling.proofs.Reading.{off_first}
use Rattle.finder_telling.proofs.Telling.{telling_off_lem}
use Rattle.finder_spelling.specs.Spelt.{text_room, word_of_pair, spelt_of, told_words, SpellsAll, SpeltAt}
use Rattle.finder_spelling.proofs.Standing.{wrote_stands}

module _ (s : List ℕ) (x : UnitShape) (m : List ℕ) (at : UnitAt s x) (distances : DistancesAt s x m) (all : AllTold x.states m) where
  abbrev M : Machine
  M = machine_of_unit s x

  pair_told : (p q : ℕ) → p < q → q < x.states → FirstTold x.inputs M p q (telling_off s x m p q)
  pair_told p q two state =
      let some' = all.told p q two state in
      let more : mark_of m p q ≡ suc (mark_of m p q - 1) = omega arith in
      let first = off_first x.inputs M (unit_whole s x at) m (x.states - 1) distances.marked (mark_of m p q - 1) p q (omega arith) state more in
      rw (← more) at first

  abbrev words : List Word
  words = map (word_of_pair s x m) (pairs x.states)

  words_valid : (w : Word) → w ∈ words → Valid x.inputs w
  words_valid w in_w =
      let ((p, q), in_a, is) = Memᴰ.of_map (word_of_pair s x m) (pairs x.states) in_w in
      let (two, state) = of_pairs x.states in_a in
      rw is at (pair_told p q two state).valid

  words_inputs : sum (map (λ (w : Word). length w) words) ≤ 43680
  words_inputs =
      let few =
      few_inputs x.inputs M (unit_whole s x at) (λ p q two state. (telling_off s x m p q, pair_told p q two state)) (λ a. length (word_of_pair s x m a))
      (λ p q two state. (telling_off s x m p q, pair_told p q two state, refl)) in
      let one = ap sum (map-map (λ (w : Word). length w) (word_of_pair s x m) (pairs x.states)) in
      omega (arith, most_inputs_lem x.states at.few_states)

  words_count : length words ≡ length (pairs x.states)
  words_count = length-map (pairs x.states) (word_of_pair s x m)

  pub pairs_room : length (spelt_of s x m (pairs x.states)) ≤ text_room
  pairs_room = omega (arith, words_long words, words_inputs, words_count, most_pairs x.states at.few_states)

  -- What was spelt stands in the text: the words of all pairs,
  pub spelt_pairs : (text text' : List ℕ) (count : ℕ) → x.states ≢ 1 → length text ≡ text_room → SpellsAll s x m text text' count → SpeltAt s x m text' count
  unfolding told_words
  spelt_pairs text text' count several size spells =
      let counted : count ≡ length words = spells.counted ∙ sym words_count in
      let (are, stand) = wrote_stands text text' x.inputs words spells.end words_valid spells.wrote (omega (arith, pairs_room)) in
      let other = ne_eqb x.states 1 several in
      record {
        size = wrote_size spells.wrote ∙ size;
        words = rw (other, counted) are;
        stand = rw counted stand;
        few = omega (arith, spells.counted, most_pairs x.states at.few_states);
        inputs = rw other words_inputs;
      }

  -- or, for one state, the empty word.
  pub spelt_alone : (text : List ℕ) → x.states ≡ 1 → length text ≡ text_room → SpeltAt s x m (set text 0 0) 1
  unfolding told_words flat_map word_bytes
  spelt_alone text one size =
      let wrote : Wrote text 0 (flat_map word_bytes ([] ∷ [])) (set text 0 0) 1 = wrote_byte text 0 0 in
      let (are, stand) = wrote_stands text (set text 0 0) x.inputs ([] ∷ []) 1 (λ w in_w. rw (Memᴰ.eq_of_singleton in_w) tt) wrote (omega (arith, size)) in
      let is = eq-eqb x.states 1 one in
      record { size = wrote_size wrote ∙ size; words = rw is are; stand = stand; few = omega arith; inputs = rw is (omega arith) }

map_same : {A B : Type 0} (f g : A → B) (l : List A) → ((a : A) → a ∈ l → f a ≡ g a) → map f l ≡ map g l
map_same f g [] h = refl
map_same f g (a ∷ l) h = rw (h a (Memᴰ.head refl), map_same f g l (λ b m. h b (Memᴰ.tail m)))

-- THE WORDS, each once at its first place, are the separating words that the rules find.
pub told_separating : (s : List ℕ) (x : UnitShape) (u : UnitData) (m : List ℕ) → UnitStands s x u → DistancesAt s x m → distinct (told_words s x m) ≡ found_separating u
unfolding told_words found_separating
told_separating s x u m stands distances =
    let same =
    map_same (word_of_pair s x m) (λ a. word_of (telling_word u a)) (pairs u.states)
    (λ (p, q) in_a. let (two, state) = of_pairs u.states in_a in telling_off_lem s x u stands m distances p q two state) in
    ap (λ (n : ℕ). distinct (cond (eqb n 1) ([] ∷ []) (map (word_of_pair s x m) (pairs n)))) stands.states
    ∙ elim (outcome (eqb u.states 1)) [
      | inl one ↦ rw one
      | inr several ↦ rw several (ap distinct same)
    ]
