-- Laws of the first places of words: looking only at them finds the same; and how they are found one after the other.
use Prim.Native.Nat.{ℕ, zero, suc, ◌+◌, ◌-◌, ◌≤◌, ◌<◌}
use native.Mathlib.Omega.{arith}
use native.Mathlib.Decide.{ℕ_discrete}
use native.Mathlib.Numerals.{add-one}
use mathlib.Core.Path.{◌≡◌, refl, sym, ◌∙◌, ap}
use mathlib.Core.Logic.{inl, inr}
use mathlib.Core.List.Memᴰ
use mathlib.Core.List.{List, [], ◌∷◌, ◌++◌, append_assoc, append-nil}
use mathlib.Core.Bool.{Bool, true, false, not, ◌||◌}
use lib.ListN.{length, get_or, set, length-append, get_or-append}
use lib.Seq.{get_or-set_same, get_or-set_other, take_at, get_or_at}
use Rattle.std.specs.Prelude.{Option, Some, None}
use Rattle.rules.specs.Lists.{◌∈◌, placed, placed_from, keep, first}
use Rattle.rules.specs.Words.{Word, same, is_in}
use Rattle.reader.specs.Places.{word_at, after_word, words_at, word_place, WordsAt}
use Rattle.reader.specs.Turns.{word_turn, words_end}
use Rattle.reader.proofs.Held.{words_inside}
use Rattle.theory.specs.Lists.{outcome, clash}
use Rattle.theory.specs.Words.{is_in_in}
use Rattle.trie.specs.Model.{Trie, Proper, size, word_of, walk_from, holding}
use Rattle.trie.specs.Holds.{Holds}
use Rattle.trie.specs.Words.{Has, root_walk, off_at, has_reaches, holding_proper, reaches, reaches_has}
use Rattle.trie.specs.Values.{marks_of, Noted}
use Rattle.trie_filing.specs.Distinct.{is_first, firsts, FirstPlaces, StoredOf}

-- the word behind others is the first of its kind where none of those is the same
first_behind : (done : List Word) (w : Word) (rest : List Word) → is_first (done ++ w ∷ rest) (length done, w) ≡ not (is_in w done)
first_behind done w rest = rw (take_at done (w ∷ rest) (length done) refl)

pub is_in_snoc : (v : Word) (done : List Word) (w : Word) → is_in v (done ++ (w ∷ [])) ≡ (same v w || is_in v done)
is_in_snoc v [] w = refl
is_in_snoc v (u ∷ done) w = rw (is_in_snoc v done w) (turn (same v u) (same v w) (is_in v done))
  where
    turn : (a b c : Bool) → (a || (b || c)) ≡ (b || (a || c))
    turn true true c = refl
    turn true false c = refl
    turn false b c = refl

pub length_snoc : {A : Type 0} (l : List A) (x : A) → length (l ++ (x ∷ [])) ≡ suc (length l)
length_snoc l x = length-append l (x ∷ []) ∙ omega arith

-- Where no word before passes the test, the first one that does is the first of its kind.
module _ (test : Word → Bool) where
  abbrev of_word : ℕ × Word → Bool
  of_word (i, w) = test w

  first_rest : (all done rest : List Word) → all ≡ done ++ rest → ((w : Word) → w ∈ done → test w ≡ false)
      → first of_word (placed_from (length done) rest) ≡ first of_word (keep (is_first all) (placed_from (length done) rest))
  first_rest all done [] split none = refl
  first_rest all done (w ∷ rest) split none =
      elim (outcome (test w)) [
        | inl passes ↦
            let new : is_in w done ≡ false = elim (outcome (is_in w done)) [ inl old ↦ clash passes (none w (is_in_in old)) | inr new ↦ new ] in
            let here : is_first all (length done, w) ≡ true = rw split (first_behind done w rest ∙ rw new) in
            rw (here, passes)
        | inr fails ↦
            let later = first_rest all (done ++ (w ∷ [])) rest (split ∙ sym (append_assoc done (w ∷ []) rest)) (λ v m. elim (Memᴰ.append_cases done m) [
              | inl old ↦ none v old
              | inr new ↦ elim (Memᴰ.cases_cons new) [ inl e ↦ rw e fails | inr nowhere ↦ absurd (Memᴰ.not-nil nowhere) ]
            ]) in
            let later' : first of_word (placed_from (suc (length done)) rest) ≡ first of_word (keep (is_first all) (placed_from (suc (length done)) rest)) = rw (length_snoc done w) at later in
            elim (outcome (is_first all (length done, w))) [
              | inl here ↦ rw (here, fails) later'
              | inr here ↦ rw (here, fails) later'
            ]
      ]

-- for a test on words, looking only at first places finds the same
pub first-firsts : (test : Word → Bool) (ws : List Word) → first (λ (i, w). test w) (placed ws) ≡ first (λ (i, w). test w) (firsts ws)
first-firsts test ws = first_rest test ws [] ws refl (λ w m. absurd (Memᴰ.not-nil m))

-- the place of the next word
pub place_next : (s : List ℕ) (p i : ℕ) → word_place s p (suc i) ≡ after_word s (word_place s p i)
unfolding word_place
place_next s p zero = refl
place_next s p (suc i) = place_next s (after_word s p) i

-- The first places among the words that are not left, by number and by byte, and marks for those words.
pub record Sifting (s : List ℕ) (p : ℕ) (all rest : List Word) (t : Trie) (i word n : ℕ) (numbers places marks : List ℕ) : Type 0 where
  pub done : List Word
  pub split : all ≡ done ++ rest
  pub passed : i ≡ length done
  pub found : List (ℕ × Word)
  pub left : firsts all ≡ found ++ keep (is_first all) (placed_from i rest)
  pub counted : n ≡ length found
  pub few : n ≤ i
  pub number : (j : ℕ) → j < n → get_or numbers j 0 ≡ (get_or found j (0, [])).0
  pub place : (j : ℕ) → j < n → get_or places j 0 ≡ word_place s p (get_or numbers j 0)
  pub here : word ≡ word_place s p i
  pub seen : List Word
  pub alike : (w : Word) → is_in w seen ≡ is_in w done
  pub noted : Noted t (marks_of seen) marks

pub sifting_start : (s : List ℕ) (p : ℕ) (all : List Word) (t : Trie) (numbers places marks : List ℕ) → Noted t (marks_of []) marks → Sifting s p all all t 0 p 0 numbers places marks
unfolding word_place
sifting_start s p all t numbers places marks blank =
    record {
      done = [];
      split = refl;
      passed = refl;
      found = [];
      left = refl;
      counted = refl;
      few = omega arith;
      number = λ j h. absurd (omega arith);
      place = λ j h. absurd (omega arith);
      here = refl;
      seen = [];
      alike = λ w. refl;
      noted = blank;
    }

-- a trie of words has each of them
word_had : (ws : List Word) (w : Word) → w ∈ ws → Has (holding ws) w
word_had ws w m = reaches_has (holding_proper ws) w ((reaches ws w).1 (inr (w, m, ([], append-nil w))))

module _ (s : List ℕ) (p : ℕ) (all rest : List Word) (w : Word) (t : Trie) (i word n : ℕ) (numbers places marks : List ℕ) (x : Sifting s p all (w ∷ rest) t i word n numbers places marks) where
  sifted_has : t ≡ holding all → Has t w
  sifted_has e = rw e (word_had all w (rw x.split (Memᴰ.append_right x.done (Memᴰ.head refl))))

  is_first_lem : (seen : Bool) → seen ≡ is_in w x.seen → is_first all (i, w) ≡ not seen
  is_first_lem seen e = rw (x.passed, x.split, first_behind x.done w rest, ← (x.alike w), e)

  sifted : (seen : Bool) (numbers' places' marks' : List ℕ) (r : ℕ) → n < length numbers → n < length places → seen ≡ is_in w x.seen
      → Noted t (marks_of (w ∷ x.seen)) marks' → StoredOf seen n i word numbers places numbers' places' r
      → Sifting s p all rest t (i + 1) (after_word s word) r numbers' places' marks'
  sifted true numbers' places' marks' r room room' is noted (none_new, same_numbers, same_places) =
      record {
        done = x.done ++ (w ∷ []);
        split = x.split ∙ sym (append_assoc x.done (w ∷ []) rest);
        passed = omega (arith, x.passed, length_snoc x.done w);
        found = x.found;
        left = x.left ∙ rw (is_first_lem true is, add-one i);
        counted = none_new ∙ x.counted;
        few = omega (arith, x.few);
        number = λ j h. rw same_numbers (x.number j (omega arith));
        place = λ j h. rw (same_numbers, same_places) (x.place j (omega arith));
        here = rw (x.here, add-one i) (sym (place_next s p i));
        seen = w ∷ x.seen;
        alike = λ v. rw (is_in_snoc v x.done w, x.alike v);
        noted = noted;
      }
  sifted false numbers' places' marks' r room room' is noted (one_new, more_numbers, more_places) =
      record {
        done = x.done ++ (w ∷ []);
        split = x.split ∙ sym (append_assoc x.done (w ∷ []) rest);
        passed = omega (arith, x.passed, length_snoc x.done w);
        found = x.found ++ ((i, w) ∷ []);
        left = x.left ∙ rw (is_first_lem false is, add-one i) (sym (append_assoc x.found ((i, w) ∷ []) (keep (is_first all) (placed_from (suc i) rest))));
        counted = omega (arith, x.counted, length_snoc x.found (i, w));
        few = omega (arith, x.few);
        number = λ j h. rw more_numbers (number_new j h);
        place = λ j h. rw (more_numbers, more_places) (place_new j h);
        here = rw (x.here, add-one i) (sym (place_next s p i));
        seen = w ∷ x.seen;
        alike = λ v. rw (is_in_snoc v x.done w, x.alike v);
        noted = noted;
      }
    where
      number_new : (j : ℕ) → j < r → get_or (set numbers n i) j 0 ≡ (get_or (x.found ++ ((i, w) ∷ [])) j (0, [])).0
      number_new j h =
          elim (ℕ_discrete j n) [
            | yes e ↦ rw (e, get_or-set_same numbers n i 0 room, get_or_at x.found (i, w) [] (0, []) n (sym x.counted))
            | no ne ↦ rw (get_or-set_other numbers n j i 0 ne, get_or-append x.found ((i, w) ∷ []) (0, []) j (omega (arith, x.counted))) (x.number j (omega arith))
          ]

      place_new : (j : ℕ) → j < r → get_or (set places n word) j 0 ≡ word_place s p (get_or (set numbers n i) j 0)
      place_new j h =
          elim (ℕ_discrete j n) [
            | yes e ↦ rw (e, get_or-set_same numbers n i 0 room, get_or-set_same places n word 0 room') x.here
            | no ne ↦ rw (get_or-set_other numbers n j i 0 ne, get_or-set_other places n j word 0 ne) (x.place j (omega arith))
          ]

-- The word at hand, walked in the trie.
module _ (t : Trie) (w : Word) (r : Option ℕ) (proper : Proper t) (walked : r ≡ walk_from t 0 w) where
  -- its mark was asked, and set
  pub seen_word : (node : ℕ) → r ≡ Some node → (ws : List Word) (seen : Bool) (marks : List ℕ) → (node < size t → seen ≡ is_in (word_of t node) ws) → (node < size t → Noted t (marks_of (word_of t node ∷ ws)) marks)
      → (seen ≡ is_in w ws) × Noted t (marks_of (w ∷ ws)) marks
  seen_word node is ws seen marks asked set' =
      let (less, word) = root_walk proper w r node walked is in
      (asked less ∙ ap (λ v. is_in v ws) word, rw word at (set' less))

  -- a word that the trie has is not off it
  pub seen_off : {A : Type 0} → Has t w → r ≡ None → A
  seen_off has off = let (j, f) = has_reaches proper w has in off_at r j off (walked ∙ f)

  pub seen_below : (label first next marks : List ℕ) (node : ℕ) → Holds t label first next → length marks ≡ length label → r ≡ Some node → node < length marks
  seen_below label first next marks node holds long is = omega (arith, (root_walk proper w r node walked is).0, holds.room)

-- The loop over the c words from p on, at the word number i.
module _ (s : List ℕ) (p k c : ℕ) where
  abbrev all : List Word
  all = words_at s p c

  abbrev pub SiftingAt : ℕ → ℕ → ℕ → List ℕ → List ℕ → List ℕ → Type 0
  SiftingAt i word n numbers places marks = WordsAt s word k (c - i) × Sifting s p all (words_at s word (c - i)) (holding all) i word n numbers places marks

  pub sifting_begin : (numbers places marks : List ℕ) → WordsAt s p k c → Noted (holding all) (marks_of []) marks → SiftingAt 0 p 0 numbers places marks
  sifting_begin numbers places marks stand blank =
      let whole : c - 0 ≡ c = omega arith in
      (rw whole stand, rw whole (sifting_start s p all (holding all) numbers places marks blank))

  module _ (i word n : ℕ) (numbers places marks : List ℕ) (x : SiftingAt i word n numbers places marks) where
    -- the word at hand is inside
    pub sifting_inside : i < c → after_word s word ≤ length s
    sifting_inside some = (word_turn s word k (c - i) (omega arith) x.0).here.inside

    -- there is room for it
    pub sifting_room : i < c → c ≤ length numbers → c ≤ length places → length s ≤ 65535 → WordsAt s p k c → (n < length numbers) × (n < length places) × (i ≤ 65535) × (word ≤ 65535)
    sifting_room some long long' short stand =
        let fits = words_inside s p k c stand in
        let inside = sifting_inside some in
        let few = x.1.few in
        (omega arith, omega arith, omega arith, omega arith)

    pub sifting_next : i < c → c ≤ length numbers → c ≤ length places → (seen : Bool) (numbers' places' marks' : List ℕ) (r : ℕ)
        → ((ws : List Word) → Has (holding all) (word_at s word) → Noted (holding all) (marks_of ws) marks → (seen ≡ is_in (word_at s word) ws) × Noted (holding all) (marks_of (word_at s word ∷ ws)) marks')
        → StoredOf seen n i word numbers places numbers' places' r → SiftingAt (i + 1) (after_word s word) r numbers' places' marks'
    sifting_next some long long' seen numbers' places' marks' r told stored =
        let turn = word_turn s word k (c - i) (omega arith) x.0 in
        let less : c - (i + 1) ≡ c - i - 1 = omega arith in
        let here : Sifting s p all (word_at s word ∷ words_at s (after_word s word) (c - i - 1)) (holding all) i word n numbers places marks = rw turn.words at x.1 in
        let few = x.1.few in
        let (is, noted) = told here.seen (sifted_has s p all (words_at s (after_word s word) (c - i - 1)) (word_at s word) (holding all) i word n numbers places marks here refl) here.noted in
        (rw less turn.rest, rw less (sifted s p all (words_at s (after_word s word) (c - i - 1)) (word_at s word) (holding all) i word n numbers places marks here seen numbers' places' marks' r (omega arith) (omega arith) is noted stored))

    -- all words are passed
    pub sifting_end : c ≤ i → FirstPlaces s p c numbers places n
    sifting_end over =
        let y = x.1 in
        let none_left : words_at s word (c - i) ≡ [] = words_end s word (c - i) (omega arith) in
        let is : firsts all ≡ y.found = y.left ∙ rw none_left (append-nil y.found) in
        record { counted = y.counted ∙ ap length (sym is); number = λ j h. rw is (y.number j h); place = y.place }
