-- Laws of the search for a missing word over the bytes: what is left of it at each turn of its three loops.
use Prim.Native.Nat.{ℕ, suc, ◌+◌, ◌-◌, ◌≤◌, ◌<◌}
use native.Mathlib.Omega.{arith}
use native.Mathlib.Numerals.{add-one}
use mathlib.Core.Path.{◌≡◌, refl, sym, ◌∙◌, ap}
use mathlib.Core.Logic.{inl, inr}
use mathlib.Core.List.{List, [], ◌∷◌, ◌++◌, append_assoc, append-nil}
use mathlib.Core.Bool.{Bool, true, false, not}
use mathlib.Core.Option.{some}
use lib.ListN.{length, get_or, drop, drop_of_length-le}
use Rattle.std.specs.Prelude.{Option, Some, None, Ok, Err}
use Rattle.rules.specs.declared.Refusal.{Refusal}
use Rattle.rules.specs.declared.Refusal.TheVariants.{Missing}
use Rattle.rules.specs.Lists.{placed_from, placed, any, first}
use Rattle.rules.specs.Sizes.{bound_of}
use Rattle.rules.specs.Words.{Word, begins, is_in, same, shortlex}
use Rattle.rules.specs.Needed.{middles}
use Rattle.rules.specs.Answers.{middle_of}
use Rattle.theory.specs.Lists.{outcome, any-true, any_of, clash}
use Rattle.theory.specs.Words.{same_true, begins-true, begins_of}
use Rattle.reader.specs.declared.DossierShape.{DossierShape}
use Rattle.reader.specs.Places.{word_at, after_word, words_at, WordsAt}
use Rattle.reader.specs.Turns.{WordTurn, word_turn, words_end, words_count}
use Rattle.walker.specs.Walks.{Whole}
use Rattle.trie.specs.Model.{Trie, size, word_of, walk_from, holding, Proper}
use Rattle.trie.specs.Holds.{Holds, Node}
use Rattle.trie.specs.Grow.{size_pos}
use Rattle.trie.specs.Values.{marks_of, Noted}
use Rattle.trie.specs.Words.{begins_off}
use Rattle.checker_ways.specs.declared.Way.{Way}
use Rattle.checker_ways.specs.declared.Way.TheVariants.{Off, Known, To}
use Rattle.soundness.specs.Lent.{finding_of}
use Rattle.trie_filing.specs.Distinct.{firsts}
use Rattle.checker_ways.specs.Kept.{WayOf, KeptAt, KeptNext, Keeping}
use Rattle.checker_search.specs.Blocks.{enough_of, scan, lacking_at, found_at, at_middle, at_cover, at_all, tests_at, trie_at, firsts_at, longest_at, middles_at, Closed, Covered, Marked, LackOf, Searching}
use Rattle.soundness.proofs.Sized.{few_inputs, bound_near}
use Rattle.trie_filing.proofs.Once.{first_place, firsts_few}
use Rattle.checker_ways.proofs.Ways.{shortlex_starts}
use Rattle.checker_search.proofs.Scans.{enough_once, scan_fine, scan_refused, scan_end, left_cons, first_here, first_later, first_end, other_number}

-- Marks.

module _ {t : Trie} {P : Word → Type 0} where
  marked_none : (marks : List ℕ) → ((t : Trie) → Noted t (marks_of []) marks) → Marked t P marks
  marked_none marks noted = record { words = []; noted = noted t; good = λ w e. clash {b = false} e refl }

  marked_more : (marks marks' : List ℕ) (node : ℕ)
      → ((t : Trie) (ws : List Word) → Proper t → Noted t (marks_of ws) marks → node < size t → Noted t (marks_of (word_of t node ∷ ws)) marks')
      → Proper t → node < size t → P (word_of t node) → Marked t P marks → Marked t P marks'
  marked_more marks marks' node marks_it proper less here m =
      record {
        words = word_of t node ∷ m.words;
        noted = marks_it t m.words proper m.noted less;
        good = λ w e.
            elim (outcome (same w (word_of t node))) [
              | inl is ↦ rw (same_true w (word_of t node) is) here
              | inr is ↦ m.good w (rw is at e)
            ];
      }

-- what a way says of its word
way_off : (t : Trie) (marks : List ℕ) (w : Word) (r : Way) → WayOf t marks w r → r ≡ Off → walk_from t 0 w ≡ None
way_off t marks w r way is = rw is at way

way_known : {t : Trie} {P : Word → Type 0} (marks : List ℕ) (w : Word) (r : Way) → WayOf t marks w r → r ≡ Known → Marked t P marks → P w
way_known {t} marks w r way is m =
    let told : (ws : List Word) → Noted t (marks_of ws) marks → is_in w ws ≡ true = rw is at way in
    m.good w (told m.words m.noted)

way_to : (t : Trie) (marks : List ℕ) (w : Word) (r : Way) (node : ℕ) → WayOf t marks w r → r ≡ To node → (node < size t) × (word_of t node ≡ w)
way_to t marks w r node way is = rw is at way

-- it does not leave the trie
known_stays : (r : Way) → r ≡ Known → r ≡ Off → ⊥
known_stays r known off = let z : ◌≡◌ {A = ℕ} 0 1 = cc in omega arith

to_stays : (r : Way) (node : ℕ) → r ≡ To node → r ≡ Off → ⊥
to_stays r node to off = let z : ◌≡◌ {A = ℕ} 0 1 = cc in omega arith

-- A word that leaves the trie begins no test, and no longer one does.
lacks_longer : (tests : List Word) → 0 < length tests → (v w : Word) → walk_from (holding tests) 0 v ≡ None → any (begins (v ++ w)) tests ≡ false
lacks_longer [] more v w off = absurd (omega arith)
lacks_longer (u ∷ us) more v w off =
    elim (outcome (any (begins (v ++ w)) (u ∷ us))) [
      | inl e ↦
          let (x, m, h) = any-true (begins (v ++ w)) (u ∷ us) e in
          let (rest, joined) = begins-true (v ++ w) x h in
          clash (any_of (begins v) m (begins_of v x (w ++ rest, sym (append_assoc v w rest) ∙ joined))) (sym (begins_off u us v _ (sym off) refl))
      | inr e ↦ e
    ]

-- The first separating word is the first of its kind.
firsts_start : (ws : List Word) → 0 < length ws → (w : Word) × (l : List (ℕ × Word)) × (firsts ws ≡ (0, w) ∷ l)
firsts_start [] more = absurd (omega arith)
firsts_start (w ∷ ws) more = (w, _, refl)

-- Before the cover word number c, which stands at `word`: what is left gives what all gives.
pub record Covering (s : List ℕ) (x : DossierShape) (marks done : List ℕ) (c word : ℕ) : Type 0 where
  pub stand : WordsAt s word x.inputs (x.covers - c)
  pub closed : Marked (trie_at s x) (Closed s x) marks
  pub covered : Marked (trie_at s x) (Covered s x) done
  pub rest : at_all (tests_at s x) (firsts_at s x) (middles_at x) (words_at s x.cover x.covers)
      ≡ scan (at_cover (tests_at s x) (firsts_at s x) (middles_at x)) (placed_from c (words_at s word (x.covers - c)))

-- before the middle number y, behind that cover word, whose node is `from`
pub record Going (s : List ℕ) (x : DossierShape) (marks nodes : List ℕ) (c word from y : ℕ) : Type 0 where
  pub below : from < size (trie_at s x)
  pub word_is : word_of (trie_at s x) from ≡ word_at s word
  pub kept : KeptAt (trie_at s x) from (middles_at x) nodes y
  pub closed : Marked (trie_at s x) (Closed s x) marks
  pub rest : at_cover (tests_at s x) (firsts_at s x) (middles_at x) (c, word_of (trie_at s x) from)
      ≡ scan (at_middle (tests_at s x) (firsts_at s x) c (word_of (trie_at s x) from)) (drop y (middles_at x))

-- before the separating word number e of those that stand first, behind that middle, whose node is `node`
pub record Trying (s : List ℕ) (x : DossierShape) (from y node e : ℕ) : Type 0 where
  pub below : node < size (trie_at s x)
  pub word_is : word_of (trie_at s x) node ≡ word_of (trie_at s x) from ++ get_or (middles_at x) y []
  pub rest : first (lacking_at (tests_at s x) (word_of (trie_at s x) node)) (firsts_at s x)
      ≡ first (lacking_at (tests_at s x) (word_of (trie_at s x) node)) (drop e (firsts_at s x))

-- what a mark does
abbrev pub MarksIt : List ℕ → List ℕ → ℕ → Type 0
MarksIt marks marks' node = (t : Trie) (ws : List Word) → Proper t → Noted t (marks_of ws) marks → node < size t → Noted t (marks_of (word_of t node ∷ ws)) marks'

module _ {s : List ℕ} {x : DossierShape} {total n : ℕ} {label firsts_of nexts marks₀ done₀ nodes₀ numbers places : List ℕ} (h : Searching s x total label firsts_of nexts marks₀ done₀ nodes₀ numbers places n) where
  abbrev T : List Word
  T = tests_at s x

  abbrev F : List (ℕ × Word)
  F = firsts_at s x

  abbrev M : List Word
  M = middles_at x

  abbrev t : Trie
  t = trie_at s x

  tested : 0 < length T
  tested = omega (arith, words_count s x.tests x.count, h.some_test)

  node_at : (node : ℕ) → node < size t → Node label firsts_of nexts node
  node_at node less = record { trie = t; holds = h.holds; below = less }

  pub root_at : Node label firsts_of nexts 0
  root_at = node_at 0 (size_pos t)

  -- the answer
  answer_is : finding_of (enough_of s) ≡ at_all T F M (words_at s x.cover x.covers)
  unfolding middles
  answer_is =
      let d = h.lent.held in
      let stands = h.lent.stands in
      rw h.lent.reads
      (enough_once d
      ∙ sym (λ i. at_all (stands.tests_words i) (firsts (stands.separating_words i)) (shortlex (stands.inputs i) (suc (bound_of (stands.states i) (stands.bound_byte i) - stands.states i))) (stands.cover_words i)))

  -- behind a word that leaves the trie the first separating word is the first that is missing
  off_found : (v : Word) → walk_from t 0 v ≡ None → (s : Word) × (first (lacking_at T v) F ≡ some (0, s))
  off_found v off =
      let (w, l, e) = firsts_start (words_at s x.separating x.separators) (omega (arith, words_count s x.separating x.separators, h.some_separator)) in
      (w, ap (first (lacking_at T v)) e ∙ rw (lacks_longer T tested v w off))

  middle_lacks : (i : ℕ) (u y : Word) → walk_from t 0 (u ++ y) ≡ None → at_middle T F i u y ≡ Err (Missing i (middle_of y) 0)
  middle_lacks i u y off = let (w, e) = off_found (u ++ y) off in ap (found_at i y) e

  -- The cover words.
  pub cover_start : Covering s x marks₀ done₀ 0 x.cover
  cover_start =
      let all_left : x.covers ≡ x.covers - 0 = omega arith in
      record {
        stand = rw (← all_left) h.lent.stands.cover;
        closed = marked_none marks₀ h.no_marks;
        covered = marked_none done₀ h.none_done;
        rest = ap (λ (k : ℕ). scan (at_cover T F M) (placed (words_at s x.cover k))) all_left;
      }

  module _ {marks done : List ℕ} {c word : ℕ} (covering : Covering s x marks done c word) where
    pub cover_none : x.covers ≤ c → (found : Option (ℕ × ℕ × ℕ)) → found ≡ None → LackOf s x found
    cover_none over found none =
        rw none
        (answer_is ∙ covering.rest ∙ ap (λ (ws : List Word). scan (at_cover T F M) (placed_from c ws)) (words_end s word (x.covers - c) (omega arith)) ∙ scan_end (at_cover T F M))

    module _ (less : c < x.covers) where
      turn : WordTurn s word x.inputs (x.covers - c)
      turn = word_turn s word x.inputs (x.covers - c) (omega arith) covering.stand

      pub cover_whole : Whole s word
      cover_whole = turn.here.inside

      cover_found : (r : Refusal) → at_cover T F M (c, word_at s word) ≡ Err r → finding_of (enough_of s) ≡ Err r
      cover_found r found =
          answer_is ∙ covering.rest ∙ ap (λ (ws : List Word). scan (at_cover T F M) (placed_from c ws)) turn.words ∙ scan_refused (at_cover T F M) (c, word_at s word) _ r found

      cover_next : (after : ℕ) → after ≡ after_word s word → (marks' done' : List ℕ) → at_cover T F M (c, word_at s word) ≡ Ok tt → Marked t (Closed s x) marks' → Marked t (Covered s x) done'
          → Covering s x marks' done' (c + 1) after
      cover_next after is marks' done' fine closed covered =
          let one_less : x.covers - (c + 1) ≡ x.covers - c - 1 = omega arith in
          record {
            stand = rw (is, one_less) turn.rest;
            closed = closed;
            covered = covered;
            rest =
                covering.rest
                ∙ ap (λ (ws : List Word). scan (at_cover T F M) (placed_from c ws)) turn.words
                ∙ scan_fine (at_cover T F M) (c, word_at s word) (placed_from (suc c) (words_at s (after_word s word) (x.covers - c - 1))) fine
                ∙ rw (is, one_less, add-one c);
          }

      -- by what the way along the cover word says
      module _ (r : Way) (tells : (t : Trie) → Holds t label firsts_of nexts → WayOf t done (word_at s word) r) where
        way : WayOf t done (word_at s word) r
        way = tells t h.holds

        pub cover_off : r ≡ Off → LackOf s x (Some (c, 0, 0))
        cover_off is =
            let off = way_off t done (word_at s word) r way is in
            let (l, e) = shortlex_starts x.inputs (longest_at x) in
            let first_is : get_or M 0 [] ≡ [] = rw e in
            let some_middle : 0 < length M = rw e (omega arith) in (
              some_middle,
              cover_found _ (ap (scan (at_middle T F c (word_at s word))) e ∙ scan_refused (at_middle T F c (word_at s word)) [] l _ (middle_lacks c (word_at s word) [] (ap (walk_from t 0) (append-nil (word_at s word)) ∙ off)))
                  ∙ ap (λ (w : Word). Err (Missing c (middle_of w) 0)) (sym first_is),
            )

        pub cover_known : r ≡ Known → (after : ℕ) → after ≡ after_word s word → Covering s x marks done (c + 1) after
        cover_known is after after_is = cover_next after after_is marks done (way_known done (word_at s word) r way is covering.covered c) covering.closed covering.covered

        pub middle_start : (nodes : List ℕ) (from : ℕ) → r ≡ To from → Going s x marks nodes c word from 0
        middle_start nodes from is =
            let (below, word_is) = way_to t done (word_at s word) r from way is in
            record { below = below; word_is = word_is; kept = λ z below inside. absurd (omega arith); closed = covering.closed; rest = refl }

  -- The middles behind a cover word.
  module _ {marks nodes : List ℕ} {c word from y : ℕ} (going : Going s x marks nodes c word from y) where
    abbrev u : Word
    u = word_of t from

    abbrev v : Word
    v = word_of t from ++ get_or M y []

    -- all of them were passed
    pub cover_done : {marks₁ done done' : List ℕ} → Covering s x marks₁ done c word → c < x.covers → total ≤ y → (after : ℕ) → after ≡ after_word s word → MarksIt done done' from
        → Covering s x marks done' (c + 1) after
    cover_done {marks₁} {done} {done'} covering less over after after_is marks_it =
        let over' : length M ≤ y = omega (arith, h.all_middles) in
        let all : Covered s x u = λ i. other_number T F M u c i (going.rest ∙ ap (scan (at_middle T F c u)) (drop_of_length-le M over') ∙ scan_end (at_middle T F c u)) in
        let here : at_cover T F M (c, word_at s word) ≡ Ok tt = rw (← going.word_is) (all c) in
        cover_next covering less after after_is marks done' here going.closed (marked_more done done' from marks_it h.holds.proper going.below all covering.covered)

    module _ (less : y < total) where
      inside : y < length M
      inside = omega (arith, h.all_middles)

      -- what the walk along the next one is lent
      pub keeping : length nodes ≡ length nodes₀ → Keeping label firsts_of nexts nodes x.inputs from y
      keeping long =
          record {
            trie = t;
            holds = h.holds;
            below = going.below;
            longest = longest_at x;
            short = omega (arith, bound_near s x h.lent);
            few = (few_inputs s x h.lent).1;
            places = long ∙ h.kept_long;
            less = inside;
            kept = going.kept;
          }

      middle_next : (marks' nodes' : List ℕ) → Closed s x v → KeptAt t from M nodes' (y + 1) → Marked t (Closed s x) marks' → Going s x marks' nodes' c word from (y + 1)
      middle_next marks' nodes' here kept closed =
          record {
            below = going.below;
            word_is = going.word_is;
            kept = kept;
            closed = closed;
            rest =
                going.rest
                ∙ ap (scan (at_middle T F c u)) (left_cons M y [] inside)
                ∙ scan_fine (at_middle T F c u) (get_or M y []) (drop (y + 1) M) (ap (found_at c (get_or M y [])) here);
          }

      middle_found : {marks₁ done : List ℕ} → Covering s x marks₁ done c word → c < x.covers → (e : ℕ) → at_middle T F c u (get_or M y []) ≡ Err (Missing c (middle_of (get_or M y [])) e)
          → LackOf s x (Some (c, y, e))
      middle_found covering less_covers e found =
          let behind : at_cover T F M (c, u) ≡ Err (Missing c (middle_of (get_or M y [])) e)
          = going.rest ∙ ap (scan (at_middle T F c u)) (left_cons M y [] inside) ∙ scan_refused (at_middle T F c u) (get_or M y []) (drop (y + 1) M) _ found in
          (inside, cover_found covering less_covers _ (rw (← going.word_is) behind))

      -- by what the way along it says
      module _ (nodes' : List ℕ) (r : Way) (tells : (t : Trie) (longest : ℕ) → Holds t label firsts_of nexts → from < size t → y < length (shortlex x.inputs longest) → KeptAt t from (shortlex x.inputs longest) nodes y → WayOf t marks (word_of t from ++ get_or (shortlex x.inputs longest) y []) r × KeptNext t from (shortlex x.inputs longest) nodes' y r) where
        way_here : WayOf t marks v r × KeptNext t from M nodes' y r
        way_here = tells t (longest_at x) h.holds going.below inside going.kept

        pub middle_off : r ≡ Off → {marks₁ done : List ℕ} → Covering s x marks₁ done c word → c < x.covers → LackOf s x (Some (c, y, 0))
        middle_off is covering less_covers = middle_found covering less_covers 0 (middle_lacks c u (get_or M y []) (way_off t marks v r way_here.0 is))

        pub middle_known : r ≡ Known → Going s x marks nodes' c word from (y + 1)
        middle_known is = middle_next marks nodes' (way_known marks v r way_here.0 is going.closed) (way_here.1.kept (known_stays r is)) going.closed

        module _ (node : ℕ) (is : r ≡ To node) where
          pub separator_start : Trying s x from y node 0
          separator_start = let (below, word_is) = way_to t marks v r node way_here.0 is in record { below = below; word_is = word_is; rest = refl }

          -- all separating words were passed
          pub middle_done : {e : ℕ} → Trying s x from y node e → n ≤ e → {marks' : List ℕ} → MarksIt marks marks' node → Going s x marks' nodes' c word from (y + 1)
          middle_done {e} trying over {marks'} marks_it =
              let all : Closed s x (word_of t node) = trying.rest ∙ first_end (lacking_at T (word_of t node)) F e (0, []) (omega (arith, h.once.counted)) in
              middle_next marks' nodes' (rw (← trying.word_is) all) (way_here.1.kept (to_stays r node is)) (marked_more marks marks' node marks_it h.holds.proper trying.below all going.closed)

  -- The separating words behind both.
  pub few_firsts : n ≤ 65535
  few_firsts = omega (arith, firsts_few s x.separating x.separators numbers places n h.once, h.lent.stands.separating_inside, h.lent.stands.size)

  module _ {from y node e : ℕ} (trying : Trying s x from y node e) where
    pub node_there : Node label firsts_of nexts node
    node_there = node_at node trying.below

    module _ (less : e < n) where
      place_is : Whole s (get_or places e 0) × (word_at s (get_or places e 0) ≡ (get_or F e (0, [])).1)
      place_is = first_place s x.separating x.inputs x.separators h.lent.stands.separating h.once e less

      pub place_whole : Whole s (get_or places e 0)
      place_whole = place_is.0

      module _ (r : Bool) (tells : (tests : List Word) → 0 < length tests → Holds (holding tests) label firsts_of nexts → node < size (holding tests) → r ≡ any (begins (word_of (holding tests) node ++ word_at s (get_or places e 0))) tests) where
        lacking_is : lacking_at T (word_of t node) (get_or F e (0, [])) ≡ not r
        lacking_is = ap (λ (w : Word). not (any (begins (word_of t node ++ w)) T)) (sym place_is.1) ∙ ap not (sym (tells T tested h.holds trying.below))

        within : e < length F
        within = omega (arith, h.once.counted)

        pub separator_next : r ≡ true → Trying s x from y node (e + 1)
        separator_next begun =
            record {
              below = trying.below;
              word_is = trying.word_is;
              rest = trying.rest ∙ first_later (lacking_at T (word_of t node)) F e (0, []) within (lacking_is ∙ ap not begun);
            }

        pub separator_lacks : r ≡ false → {marks nodes : List ℕ} {c word : ℕ} → Going s x marks nodes c word from y → y < total
            → {marks₁ done : List ℕ} → Covering s x marks₁ done c word → c < x.covers → (j : ℕ) → j ≡ get_or numbers e 0 → LackOf s x (Some (c, y, j))
        separator_lacks lacks {c = c} going less_middles covering less_covers j is =
            let found = trying.rest ∙ first_here (lacking_at T (word_of t node)) F e (0, []) within (lacking_is ∙ ap not lacks) in
            middle_found going less_middles covering less_covers _
            (ap (λ (w : Word). found_at c (get_or M y []) (first (lacking_at T w) F)) (sym trying.word_is)
            ∙ ap (found_at c (get_or M y [])) found
            ∙ ap (λ (j : ℕ). Err (Missing c (middle_of (get_or M y [])) j)) (sym (is ∙ h.once.number e less)))
