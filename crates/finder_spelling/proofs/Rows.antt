-- Laws of pairs row by row, and of the bytes of their words.
use Prim.Native.Nat.{ℕ, suc, ◌+◌, ◌-◌, ◌≤◌, ◌<◌}
use native.Mathlib.Omega.{arith}
use native.Mathlib.Numerals.{add-one}
use mathlib.Core.Path.{◌≡◌, refl, sym, ap, ◌∙◌}
use mathlib.Core.List.{List, [], ◌∷◌, ◌++◌, map, flat_map, map-append, append_assoc}
use lib.ListN.{length, set, length-append, length-map}
use Rattle.rules.specs.Sizes.{most_states}
use Rattle.rules.specs.Lists.{numbers_from}
use Rattle.rules.specs.Words.{Word}
use Rattle.rules.specs.Files.{word_bytes}
use Rattle.rules.specs.Needed.{pairs}
use Rattle.rules.specs.declared.GoldenState.{GoldenState}
use Rattle.reader.specs.declared.UnitShape.{UnitShape}
use Rattle.theory.specs.Lists.{numbers_length}
use Rattle.theory.specs.FoundSize.{most_pairs}
use Rattle.finder_distances.specs.Marks.{mark_of}
use Rattle.finder_distances.specs.Leads.{machine_of_unit}
use Rattle.finder_telling.specs.Read.{telling_off}
use Rattle.theory.specs.Wrote.{Wrote, Writing, wrote_byte, wrote_then, writing_start, writing_size, writing_room, writing_next, writing_end}
use Rattle.finder_telling.proofs.Reading.{off_length}
use Rattle.finder_spelling.specs.Spelt.{row_pairs, rows_from, word_of_pair, spelt_of, SpellsAll}

module _ (n : ℕ) where
  row_here : (p q : ℕ) → q < n → row_pairs n p q ≡ (p, q) ∷ row_pairs n p (q + 1)
  row_here p q less = let more : n - q ≡ suc (n - (q + 1)) = omega arith in rw (more, ← add-one q)

  row_none : (p q : ℕ) → n ≤ q → row_pairs n p q ≡ []
  row_none p q over = let none' : n - q ≡ 0 = omega arith in rw none'

  row_count : (p q : ℕ) → length (row_pairs n p q) ≡ n - q
  row_count p q = length-map (numbers_from q (n - q)) (λ b. (p, b)) ∙ numbers_length q (n - q)

  rows_start : pairs n ≡ rows_from n 0
  unfolding pairs
  rows_start = let same : n - 0 ≡ n = omega arith in rw same

  rows_here : (p : ℕ) → p < n → rows_from n p ≡ row_pairs n p (p + 1) ++ rows_from n (p + 1)
  unfolding flat_map
  rows_here p less = let more : n - p ≡ suc (n - (p + 1)) = omega arith in rw (more, ← add-one p)

  rows_none : (p : ℕ) → n ≤ p → rows_from n p ≡ []
  unfolding flat_map
  rows_none p over = let none' : n - p ≡ 0 = omega arith in rw none'

words_append : (v w : List Word) → flat_map word_bytes (v ++ w) ≡ flat_map word_bytes v ++ flat_map word_bytes w
unfolding flat_map
words_append [] w = refl
words_append (a ∷ v) w = rw (words_append v w, append_assoc)

module _ (s : List ℕ) (x : UnitShape) (m : List ℕ) where
  spelt_append : (a b : List (ℕ × ℕ)) → spelt_of s x m (a ++ b) ≡ spelt_of s x m a ++ spelt_of s x m b
  spelt_append a b = rw (map-append (word_of_pair s x m) a b) (words_append (map (word_of_pair s x m) a) (map (word_of_pair s x m) b))

  spelt_cons : (p q : ℕ) (l : List (ℕ × ℕ)) → spelt_of s x m ((p, q) ∷ l) ≡ word_bytes (telling_off s x m p q) ++ spelt_of s x m l
  unfolding flat_map
  spelt_cons p q l = refl

  -- One word behind its length byte.
  module _ (p q at : ℕ) where
    pub word_room : (room : ℕ) → at + length (word_bytes (telling_off s x m p q)) ≤ room → (at < room) × (at + 1 + mark_of m p q ≤ room)
    unfolding word_bytes
    word_room room fits =
        let long = off_length x.inputs (machine_of_unit s x) m (mark_of m p q) p q in
        (omega arith, omega arith)

    pub word_spelt : (out left : List ℕ) (d r : ℕ) → d ≡ mark_of m p q → Wrote (set out at d) (at + 1) (telling_off s x m p q) left r → Wrote out at (word_bytes (telling_off s x m p q)) left r
    unfolding word_bytes
    word_spelt out left d r is wrote =
        let long : d ≡ length (telling_off s x m p q) = is ∙ sym (off_length x.inputs (machine_of_unit s x) m (mark_of m p q) p q) in
        rw long at (wrote_then (wrote_byte out at d) wrote)

  -- The loop over a row.
  abbrev pub InRow : ℕ → List ℕ → ℕ → ℕ → List ℕ → ℕ → Type 0
  InRow p out at q left place = Writing out at (spelt_of s x m (row_pairs x.states p (p + 1))) left place (spelt_of s x m (row_pairs x.states p q))

  pub row_start : (p out_at q : ℕ) (out : List ℕ) → q ≡ p → InRow p out out_at (q + 1) out out_at
  row_start p at q out is = rw is (writing_start out at (spelt_of s x m (row_pairs x.states p (p + 1))))

  module _ (p : ℕ) (out : List ℕ) (at q : ℕ) (left : List ℕ) (place : ℕ) (row : InRow p out at q left place) where
    abbrev whole : List ℕ
    whole = spelt_of s x m (row_pairs x.states p (p + 1))

    rest_is : q < x.states → spelt_of s x m (row_pairs x.states p q) ≡ word_bytes (telling_off s x m p q) ++ spelt_of s x m (row_pairs x.states p (q + 1))
    rest_is less = ap (spelt_of s x m) (row_here x.states p q less) ∙ spelt_cons p q (row_pairs x.states p (q + 1))

    pub row_room : (other : GoldenState) → q < x.states → other.0 ≡ q → at + length whole ≤ length out → place + length (word_bytes (telling_off s x m p other.0)) ≤ length left
    row_room other less is room =
        let long = ap length (rest_is less) ∙ length-append (word_bytes (telling_off s x m p q)) (spelt_of s x m (row_pairs x.states p (q + 1))) in
        rw is
        (omega (arith, writing_room out at whole left place (spelt_of s x m (row_pairs x.states p q)) row, writing_size out at whole left place (spelt_of s x m (row_pairs x.states p q)) row))

    pub row_next : (other : GoldenState) (last : List ℕ) (after : ℕ) → q < x.states → other.0 ≡ q → Wrote left place (word_bytes (telling_off s x m p other.0)) last after → InRow p out at (q + 1) last after
    row_next other last after less is wrote =
        writing_next out at whole left place (spelt_of s x m (row_pairs x.states p q)) row (word_bytes (telling_off s x m p q)) (spelt_of s x m (row_pairs x.states p (q + 1))) last after (rest_is less) (rw is at wrote)

    pub row_end : x.states ≤ q → Wrote out at whole left place
    unfolding flat_map
    row_end over = writing_end out at whole left place (spelt_of s x m (row_pairs x.states p q)) row (ap (spelt_of s x m) (row_none x.states p q over))

    pub row_size : length left ≡ length out
    row_size = writing_size out at whole left place (spelt_of s x m (row_pairs x.states p q)) row

  -- The loop over the rows.
  pub record InRows (out : List ℕ) (p : ℕ) (left : List ℕ) (place count : ℕ) : Type 0 where
    pub writing : Writing out 0 (spelt_of s x m (pairs x.states)) left place (spelt_of s x m (rows_from x.states p))
    pub counted : count + length (rows_from x.states p) ≡ length (pairs x.states)
    pub below : p ≤ x.states

  pub rows_begin : (out : List ℕ) → InRows out 0 out 0 0
  rows_begin out =
      record {
        writing = rw (rows_start x.states) (writing_start out 0 (spelt_of s x m (rows_from x.states 0)));
        counted = rw (rows_start x.states) (omega arith);
        below = omega arith;
      }

  module _ (out : List ℕ) (p : ℕ) (left : List ℕ) (place count : ℕ) (rows : InRows out p left place count) where
    abbrev all : List ℕ
    all = spelt_of s x m (pairs x.states)

    abbrev from : ℕ → List ℕ
    from a = spelt_of s x m (rows_from x.states a)

    abbrev row : List ℕ
    row = spelt_of s x m (row_pairs x.states p (p + 1))

    from_is : p < x.states → from p ≡ row ++ from (p + 1)
    from_is less = ap (spelt_of s x m) (rows_here x.states p less) ∙ spelt_append (row_pairs x.states p (p + 1)) (rows_from x.states (p + 1))

    pub rows_size : length left ≡ length out
    rows_size = writing_size out 0 all left place (from p) rows.writing

    pub rows_room : (state : GoldenState) → p < x.states → state.0 ≡ p → length all ≤ length out
        → place + length (spelt_of s x m (row_pairs x.states state.0 (state.0 + 1))) ≤ length left
    rows_room state less is room =
        let long = ap length (from_is less) ∙ length-append row (from (p + 1)) in
        rw is (omega (arith, writing_room out 0 all left place (from p) rows.writing, rows_size))

    more_count : p < x.states → length (rows_from x.states p) ≡ x.states - (p + 1) + length (rows_from x.states (p + 1))
    more_count less =
        ap length (rows_here x.states p less)
        ∙ length-append (row_pairs x.states p (p + 1)) (rows_from x.states (p + 1))
        ∙ ap (λ c. c + length (rows_from x.states (p + 1))) (row_count x.states p (p + 1))

    pub rows_few : p < x.states → x.states ≤ most_states → count + (x.states - (p + 1)) ≤ 2016
    rows_few less few = omega (arith, rows.counted, more_count less, most_pairs x.states few)

    pub rows_next : (state : GoldenState) (last : List ℕ) (after more : ℕ) → p < x.states → state.0 ≡ p
        → Wrote left place (spelt_of s x m (row_pairs x.states state.0 (state.0 + 1))) last after → more ≡ x.states - (p + 1) → InRows out (p + 1) last after (count + more)
    rows_next state last after more less is wrote some' =
        record {
          writing = writing_next out 0 all left place (from p) rows.writing row (from (p + 1)) last after (from_is less) (rw is at wrote);
          counted = omega (arith, rows.counted, more_count less);
          below = omega arith;
        }

    pub rows_end : x.states ≤ p → SpellsAll s x m out left count
    unfolding flat_map
    rows_end over =
        record {
          end = place;
          wrote = writing_end out 0 all left place (from p) rows.writing (ap (spelt_of s x m) (rows_none x.states p over));
          counted = omega (arith, rows.counted, ap length (rows_none x.states p over));
        }
