-- Laws of a trie that records are put into one after the other.
use Prim.Native.Nat.{ℕ, suc, ◌+◌, ◌-◌, ◌≤◌, ◌<◌}
use native.Mathlib.Omega.{arith}
use mathlib.Core.Path.{◌≡◌, refl, sym, ◌∙◌, ap}
use mathlib.Core.Logic.{inl, inr}
use mathlib.Core.List.{List, [], ◌∷◌, ◌++◌, map, append_assoc, append-nil, map-append}
use mathlib.Core.Bool.{Bool, true, false, ◌||◌}
use lib.ListN.{length, take}
use lib.Seq.{take_at}
use Rattle.rules.specs.Lists.{sum, first}
use Rattle.rules.specs.Words.{Word, same, is_in}
use Rattle.rules.specs.Files.{SheetRecord}
use Rattle.rules.specs.Operations.{repeated}
use Rattle.reader.specs.Places.{word_at, after_record, records_at, RecordsAt}
use Rattle.theory.specs.Lists.{outcome}
use Rattle.theory.specs.Words.{same_true, same_refl, same_false, differ_same}
use Rattle.trie.specs.Model.{Trie, Proper, root, size, add_word, word_of, add_all, holding}
use Rattle.trie.specs.Holds.{Holds, Counted, InsertOf}
use Rattle.trie.specs.Grow.{size_pos}
use Rattle.trie.specs.Words.{end_word, word_root, holding_snoc, holding-size}
use Rattle.trie.specs.Sizes.{holding_grows}
use Rattle.trie.specs.Values.{Map, empty, put, value_of, Noted, value_same, value_other, noted_grown, insert_done}
use Rattle.trie_filing.proofs.Firsts.{is_in_snoc, length_snoc}
use Rattle.std.specs.Prelude.{Option, Some, None}
use Rattle.judge_records.specs.declared.Stored.{Stored}
use Rattle.judge_records.specs.declared.Stored.TheVariants as stored
use Rattle.judge_records.specs.Filed.{found_of, words_of, record_at, Stands, Filed, StoredOf}
use Rattle.judge_records.proofs.Standing.{RecordsLeft, RecordScan, records_begin, record_whole, record_among, records_next, records_are, records_end, record_scan_begin, record_scan_found, record_scan_next, record_scan_end}

-- a trie has a root, behind which words are put
pub counted_root : {label first next : List ℕ} {nodes : ℕ} → Counted label first next nodes → Counted label first next nodes × (0 < nodes)
counted_root x = (x, omega (arith, x.counted, size_pos x.trie))

-- The word of a record was put in, and what its node had was asked.
module _ (t : Trie) (m : Map) (w : Word) (label first next value label' first' next' : List ℕ) (r : Option (ℕ × ℕ)) (h : Holds t label first next) (noted : Noted t m value)
    (done : InsertOf t 0 w label' first' next' r) where
  module _ (node k : ℕ) (is : r ≡ Some (node, k)) where
    abbrev t' : Trie
    t' = add_word t 0 w

    node_word : (node < size t') × (word_of t' node ≡ w)
    node_word =
        let d = insert_done t w label' first' next' r node k h.proper done is in
        let (less, word) = end_word h.proper 0 w (size_pos t) in
        (omega (arith, d.0), rw d.0 (word ∙ rw (word_root t)))

    still_noted : Noted t' m value
    still_noted = noted_grown t m value h.proper noted 0 w (size_pos t)

    module _ (had : ℕ) (asked : (t : Trie) (m : Map) → Noted t m value → node < size t → had ≡ value_of m (word_of t node)) where
      had_value : had ≡ value_of m w
      had_value = asked t' m still_noted node_word.0 ∙ ap (value_of m) node_word.1

      pub put_old : (p : ℕ) → (had ≡ 0 → ⊥) → StoredOf t m w p label' first' next' value stored.Old
      put_old p some' none' = some' (had_value ∙ none')

      pub put_new : (p : ℕ) (value' : List ℕ) → had ≡ 0 → ((t : Trie) (m : Map) → Proper t → Noted t m value → node < size t → Noted t (put m (word_of t node) p) value')
          → StoredOf t m w p label' first' next' value' (stored.New k)
      put_new p value' none' put' =
          let d = insert_done t w label' first' next' r node k h.proper done is in
          (sym had_value ∙ none', d.1, d.2, rw node_word.1 at (put' t' m d.2.proper still_noted node_word.0))

  pub put_full : (p : ℕ) → r ≡ None → StoredOf t m w p label' first' next' value stored.Full
  put_full p is = rw is at done

-- The records that are not left are in the trie, and no word of theirs stands twice.
pub record Filing (s : List ℕ) (p k c i at : ℕ) (label first next value : List ℕ) (nodes : ℕ) : Type 0 where
  pub left : RecordsLeft s p k c i at
  pub after : 0 < at
  pub done : List SheetRecord
  pub split : records_at s p c ≡ done ++ records_at s at (c - i)
  pub passed : i ≡ length done
  pub once : RecordScan (λ (i, r). is_in r.word (words_of (take i (records_at s p c)))) s p c i at
  pub holds : Holds (holding (words_of done)) label first next
  pub counted : nodes ≡ size (holding (words_of done))
  pub places : Map
  pub noted : Noted (holding (words_of done)) places value
  pub unfiled : (w : Word) → value_of places w ≡ 0 → is_in w (words_of done) ≡ false
  pub filed : (w : Word) → (value_of places w ≡ 0 → ⊥) → Stands s k (records_at s p c) w (value_of places w) × (is_in w (words_of done) ≡ true)

pub filing_begin : (s : List ℕ) (p k c : ℕ) (label first next value : List ℕ) (nodes : ℕ) → RecordsAt s p k c → 0 < p → Holds root label first next → nodes ≡ 1
    → ((t : Trie) → Noted t empty value) → Filing s p k c 0 p label first next value nodes
unfolding add_all size value_of
filing_begin s p k c label first next value nodes stand some' holds one blank =
    let whole : c - 0 ≡ c = omega arith in
    record {
      left = records_begin s p k c stand;
      after = some';
      done = [];
      split = rw whole;
      passed = refl;
      once = record_scan_begin _ s p c;
      holds = holds;
      counted = one;
      places = empty;
      noted = blank root;
      unfiled = λ w none'. refl;
      filed = λ w some'. absurd (some' refl);
    }

pub filing_counted : {s : List ℕ} {p k c i at : ℕ} {label first next value : List ℕ} {nodes : ℕ} → Filing s p k c i at label first next value nodes → Counted label first next nodes
filing_counted f = record { trie = holding (words_of f.done); holds = f.holds; counted = f.counted }

module _ (s : List ℕ) (p k c i at : ℕ) (label first next value : List ℕ) (nodes : ℕ) (f : Filing s p k c i at label first next value nodes) where
  abbrev all : List SheetRecord
  all = records_at s p c

  -- all are passed: none was repeated, and all are filed
  pub filing_end : c ≤ i → length value ≡ length label → (None ≡ found_of (repeated all)) × Filed s k all label first next value
  unfolding repeated
  filing_end over long =
      let is : all ≡ f.done = f.split ∙ rw (records_end s at (c - i) (omega arith)) (append-nil f.done) in (
        sym (ap found_of (record_scan_end (λ (i, r). is_in r.word (words_of (take i all))) s p c i at over f.once)),
        record {
          trie = holding (words_of f.done);
          holds = f.holds;
          long = long;
          places = f.places;
          noted = f.noted;
          unfiled = λ w none'. ap (λ (rs : List SheetRecord). is_in w (words_of rs)) is ∙ f.unfiled w none';
          filed = λ w some'. (f.filed w some').0;
        },
      )

  module _ (some' : i < c) where
    abbrev w : Word
    w = word_at s at

    split_here : all ≡ f.done ++ (record_at s at ∷ records_at s (after_record s at) (c - (i + 1)))
    split_here = f.split ∙ ap (λ (rs : List SheetRecord). f.done ++ rs) (records_are s p k c i at f.left some' (after_record s at) refl)

    -- the records before it
    before : take i all ≡ f.done
    before = rw split_here (take_at f.done (record_at s at ∷ records_at s (after_record s at) (c - (i + 1))) i (sym f.passed))

    module _ (label' first' next' value' : List ℕ) (r : Stored)
        (stores : (t : Trie) (m : Map) → Holds t label first next → Noted t m value → nodes ≡ size t → StoredOf t m (word_at s at) at label' first' next' value' r) where
      stored_here : StoredOf (holding (words_of f.done)) f.places w at label' first' next' value' r
      stored_here = stores (holding (words_of f.done)) f.places f.holds f.noted f.counted

      -- an earlier record has its word
      pub filing_old : r ≡ stored.Old → Some i ≡ found_of (repeated all)
      unfolding repeated
      filing_old is =
          let had = rw is at stored_here in
          let again : is_in w (words_of (take i all)) ≡ true = rw before (f.filed w had).1 in
          sym (ap found_of (record_scan_found (λ (i, r). is_in r.word (words_of (take i all))) s p k c i at f.left some' f.once again))

      words_more : words_of (f.done ++ (record_at s at ∷ [])) ≡ words_of f.done ++ (w ∷ [])
      words_more = map-append (λ (r : SheetRecord). r.word) f.done (record_at s at ∷ [])

      holding_more : holding (words_of (f.done ++ (record_at s at ∷ []))) ≡ add_word (holding (words_of f.done)) 0 w
      holding_more = ap holding words_more ∙ holding_snoc (words_of f.done) w

      is_in_more : (v : Word) → is_in v (words_of (f.done ++ (record_at s at ∷ []))) ≡ (same v w || is_in v (words_of f.done))
      is_in_more v = ap (is_in v) words_more ∙ is_in_snoc v (words_of f.done) w

      -- its word is new
      module _ (more n : ℕ) (place : n ≡ after_record s at) (is : r ≡ stored.New more) where
        abbrev here : StoredOf (holding (words_of f.done)) f.places w at label' first' next' value' (stored.New more)
        here = rw is at stored_here

        abbrev places' : Map
        places' = put f.places w at

        now_unfiled : (v : Word) → value_of places' v ≡ 0 → is_in v (words_of (f.done ++ (record_at s at ∷ []))) ≡ false
        now_unfiled v none' =
            elim (outcome (same w v)) [
              | inl e ↦ absurd (omega (arith, f.after, sym (value_same f.places w at v (same_true w v e)) ∙ none'))
              | inr e ↦
                  let other = same_false {v = w} {w = v} e in
                  is_in_more v ∙ rw (differ_same {v = v} {w = w} (λ h. other (sym h))) (f.unfiled v (sym (value_other f.places w at v other) ∙ none'))
            ]

        now_filed : (v : Word) → (value_of places' v ≡ 0 → ⊥) → Stands s k all v (value_of places' v) × (is_in v (words_of (f.done ++ (record_at s at ∷ []))) ≡ true)
        now_filed v some'' =
            elim (outcome (same w v)) [
              | inl e ↦
                  let (whole, inside) = record_whole s p k c i at f.left some' in
                  let is' = same_true w v e in
                  (rw (value_same f.places w at v is') (record { word = whole; inside = inside; is = is'; among = record_among s p k c i at f.left some' }), is_in_more v ∙ rw (← is', same_refl w))
              | inr e ↦
                  let other = value_other f.places w at v (same_false {v = w} {w = v} e) in
                  let (stands, in_done) = f.filed v (λ h. some'' (other ∙ h)) in
                  (rw other stands, is_in_more v ∙ rw in_done (or_true (same v w)))
            ]
          where
            or_true : (b : Bool) → (b || true) ≡ true
            or_true true = refl
            or_true false = refl

        pub filing_next : Filing s p k c (i + 1) n label' first' next' value' more
        filing_next =
            let new : is_in w (words_of (take i all)) ≡ false = rw before (f.unfiled w here.0) in
            record {
              left = records_next s p k c i at f.left some' n place;
              after = omega (arith, f.after, place);
              done = f.done ++ (record_at s at ∷ []);
              split = rw place (split_here ∙ sym (append_assoc f.done (record_at s at ∷ []) (records_at s (after_record s at) (c - (i + 1)))));
              passed = omega (arith, f.passed, length_snoc f.done (record_at s at));
              once = record_scan_next (λ (i, r). is_in r.word (words_of (take i all))) s p k c i at f.left some' f.once n place new;
              holds = rw holding_more here.2;
              counted = here.1 ∙ ap size (sym holding_more);
              places = places';
              noted = rw holding_more here.3;
              unfiled = now_unfiled;
              filed = now_filed;
            }

      -- there is room for all
      pub filing_full : {A : Type 0} → suc (sum (map length (words_of all))) ≤ length label' → r ≡ stored.Full → A
      filing_full room is =
          let over : length label' < size (add_word (holding (words_of f.done)) 0 w) = rw is at stored_here in
          let ends : words_of all ≡ (words_of f.done ++ (w ∷ [])) ++ words_of (records_at s (after_record s at) (c - (i + 1))) =
          ap words_of (split_here ∙ sym (append_assoc f.done (record_at s at ∷ []) (records_at s (after_record s at) (c - (i + 1)))))
          ∙ map-append (λ (r : SheetRecord). r.word) (f.done ++ (record_at s at ∷ [])) (records_at s (after_record s at) (c - (i + 1)))
          ∙ rw words_more in
          let grows = holding_grows (words_of f.done ++ (w ∷ [])) (words_of (records_at s (after_record s at) (c - (i + 1)))) in
          let whole : size (holding (words_of all)) ≡ size (holding ((words_of f.done ++ (w ∷ [])) ++ words_of (records_at s (after_record s at) (c - (i + 1))))) = ap (λ (ws : List Word). size (holding ws)) ends in
          let one = ap size (holding_snoc (words_of f.done) w) in
          absurd (omega (arith, holding-size (words_of all)))

pub at_not_nothing : {A : Type 0} {i : ℕ} → Some i ≡ None → A
at_not_nothing e = let z : ◌≡◌ {A = ℕ} 0 1 = cc in absurd (omega arith)
