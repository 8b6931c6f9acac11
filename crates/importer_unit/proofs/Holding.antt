-- Laws of the unit that the tables hold: its entries one after the other, its bytes, and that it is the unit that the terms say.
use Prim.Native.Nat.{ℕ, zero, suc, ◌+◌, ◌*◌, ◌-◌, ◌/◌, ◌%◌, ◌≤◌, ◌<◌}
use native.Mathlib.Omega.{arith}
use native.Mathlib.Numerals.{add-one}
use native.Mathlib.Nat.{zero-add, add-zero, suc-mul}
use mathlib.Core.Path.{◌≡◌, refl, sym, ap, ◌∙◌}
use mathlib.Core.Logic.{inl, inr}
use mathlib.Core.List.Memᴰ
use mathlib.Core.List.{List, [], ◌∷◌, ◌++◌, map, flat_map}
use mathlib.Core.Bool.{false}
use mathlib.Core.Option.{Option, none}
use lib.ListN.{length, get_or, set, drop, length-append}
use lib.Seq.{sets-eq}
use Rattle.rules.specs.Lists.{◌∈◌, numbers_from, numbers, first}
use Rattle.rules.specs.Sizes.{most_inputs, most_states}
use Rattle.rules.specs.Machines.{Table}
use Rattle.rules.specs.Files.{count_bytes, entry_bytes, output_bytes, table_bytes, unit_bytes}
use Rattle.rules.specs.Operations.{overwritten}
use Rattle.rules.specs.Kiss2.{Field, Term, is_about, is_silent, entry_of, grid, place_in}
use Rattle.theory.specs.Lists.{optional, clash, first-none, first_some, of_numbers, numbers_length, map-length, flat_map_append, in_flat_map, in_numbers, rows_length}
use Rattle.theory.specs.Sections.{table_long}
use Rattle.theory.specs.Wrote.{Wrote, Writing, wrote_then, writing_size, writing_room, writing_next}
use Rattle.theory.specs.Kiss2Units.{place_below}
use Rattle.importer_terms.specs.Entries.{entry_place, next_mark, output_mark, EntriesAt}
use Rattle.importer_unit.specs.Numbered.{NumbersIn, NumberedAt}
use Rattle.importer_unit.specs.Held.{entry_held, row_held, row_bytes, table_held, held_bytes, Tables, EntryThere, RowThere, TableThere}

-- an entry
pub entry_written : (out : List ℕ) (at a b : ℕ) (nexts outputs ranks : List ℕ) (place : ℕ) → a ≡ (entry_held nexts outputs ranks place).0 → b ≡ (entry_held nexts outputs ranks place).1
    → Wrote out at (entry_bytes (entry_held nexts outputs ranks place)) (set (set out at a) (at + 1) b) (at + 2)
unfolding entry_bytes output_bytes
entry_written out at a b nexts outputs ranks place is is' =
    let next : at + 1 ≡ suc at = omega arith in
    record { place = omega arith; same = rw (next, is, is') }

module _ (nexts outputs ranks : List ℕ) where
  -- a row, entry by entry
  module _ (j k : ℕ) where
    pub row_long : (i n : ℕ) → length (row_bytes nexts outputs ranks j i n) ≡ 2 * n
    unfolding row_bytes row_held
    row_long i n =
        table_long (map (λ m. entry_held nexts outputs ranks (entry_place j m)) (numbers_from i n))
        ∙ ap (λ m. 2 * m) (map-length (λ m. entry_held nexts outputs ranks (entry_place j m)) (numbers_from i n) ∙ numbers_length i n)

    pub row_start : row_bytes nexts outputs ranks j 0 k ≡ row_bytes nexts outputs ranks j 0 (k - 0)
    row_start = let same : k - 0 ≡ k = omega arith in rw same

    module _ (i : ℕ) where
      pub row_end : k ≤ i → row_bytes nexts outputs ranks j i (k - i) ≡ []
      unfolding row_bytes row_held flat_map
      row_end all = let none_left : k - i ≡ 0 = omega arith in rw none_left

      row_next : i < k → row_bytes nexts outputs ranks j i (k - i) ≡ entry_bytes (entry_held nexts outputs ranks (entry_place j i)) ++ row_bytes nexts outputs ranks j (i + 1) (k - (i + 1))
      unfolding row_bytes row_held flat_map
      row_next less = let more : k - i ≡ suc (k - (i + 1)) = omega arith in rw (more, ← add-one i)

      module _ (less : i < k) (out : List ℕ) (at : ℕ) (bytes left : List ℕ) (p : ℕ) (so_far : Writing out at bytes left p (row_bytes nexts outputs ranks j i (k - i))) where
        pub row_room : at + length bytes ≤ length out → p + 2 ≤ length left
        row_room room = omega (arith, writing_room _ _ _ _ _ _ so_far, writing_size _ _ _ _ _ _ so_far, row_long i (k - i))

        pub row_again : (place : ℕ) → place ≡ entry_place j i → {last : List ℕ} {q : ℕ} → Wrote left p (entry_bytes (entry_held nexts outputs ranks place)) last q
            → Writing out at bytes last q (row_bytes nexts outputs ranks j (i + 1) (k - (i + 1)))
        row_again place is {last} {q} wrote =
            writing_next out at bytes left p _ so_far _ (row_bytes nexts outputs ranks j (i + 1) (k - (i + 1))) last q (row_next less) (rw is at wrote)

  -- the table, row by row
  module _ (numbering : List ℕ) (k n : ℕ) where
    abbrev bytes_from : ℕ → ℕ → List ℕ
    bytes_from q m = held_bytes nexts outputs ranks numbering k q m

    table_next : (q m : ℕ) → bytes_from q (suc m) ≡ row_bytes nexts outputs ranks (get_or numbering q 0) 0 k ++ bytes_from (suc q) m
    unfolding held_bytes table_held row_bytes flat_map
    table_next q m = flat_map_append entry_bytes (row_held nexts outputs ranks (get_or numbering q 0) 0 k) (table_held nexts outputs ranks numbering k (suc q) m)

    pub held_long : (q m : ℕ) → length (bytes_from q m) ≡ 2 * (m * k)
    unfolding held_bytes table_held flat_map
    held_long q zero = omega arith
    held_long q (suc m) =
        ap length (table_next q m)
        ∙ length-append (row_bytes nexts outputs ranks (get_or numbering q 0) 0 k) (bytes_from (suc q) m)
        ∙ omega (arith, row_long (get_or numbering q 0) k 0 k, held_long (suc q) m, suc-mul m k)

    pub held_start : bytes_from 0 n ≡ bytes_from 0 (n - 0)
    held_start = let same : n - 0 ≡ n = omega arith in rw same

    module _ (q : ℕ) where
      pub held_end : n ≤ q → bytes_from q (n - q) ≡ []
      unfolding held_bytes table_held flat_map
      held_end all = let none_left : n - q ≡ 0 = omega arith in rw none_left

      module _ (less : q < n) where
        held_next : bytes_from q (n - q) ≡ row_bytes nexts outputs ranks (get_or numbering q 0) 0 k ++ bytes_from (q + 1) (n - (q + 1))
        held_next = let more : n - q ≡ suc (n - (q + 1)) = omega arith in rw (more, add-one q) (table_next q (n - suc q))

        module _ (out : List ℕ) (at : ℕ) (bytes left : List ℕ) (p : ℕ) (so_far : Writing out at bytes left p (bytes_from q (n - q))) where
          pub held_room : at + length bytes ≤ length out → p + 2 * k ≤ length left
          held_room room =
              let long = ap length held_next ∙ length-append (row_bytes nexts outputs ranks (get_or numbering q 0) 0 k) (bytes_from (q + 1) (n - (q + 1))) in
              omega (arith, writing_room _ _ _ _ _ _ so_far, writing_size _ _ _ _ _ _ so_far, row_long (get_or numbering q 0) k 0 k)

          pub held_again : (j : ℕ) → j ≡ get_or numbering q 0 → {last : List ℕ} {r : ℕ} → Wrote left p (row_bytes nexts outputs ranks j 0 k) last r
              → Writing out at bytes last r (bytes_from (q + 1) (n - (q + 1)))
          held_again j is {last} {r} wrote =
              writing_next out at bytes left p _ so_far _ (bytes_from (q + 1) (n - (q + 1))) last r held_next (rw is at wrote)

pub row_of : (nexts ranks numbering : List ℕ) (n k : ℕ) → TableThere nexts ranks numbering n k → (q : ℕ) → q < n → (j : ℕ) → j ≡ get_or numbering q 0
    → RowThere nexts ranks j k
row_of nexts ranks numbering n k t q less j is =
    record { name = rw is (t.numbers_in.low q less); few = t.few; there = λ i input. rw is (t.there q i less input) }

-- the six bytes before the table
pub head_written : (out : List ℕ) (k n c : ℕ) → 6 ≤ length out → (head : List ℕ) → head ≡ 2 ∷ 0 ∷ k ∷ n ∷ c % 256 ∷ c / 256 ∷ []
    → Wrote out 0 (count_bytes 2 ++ (k ∷ n ∷ []) ++ count_bytes c) (head ++ drop 6 out) 6
unfolding count_bytes
head_written out k n c room head is =
    record { place = refl; same = rw is (sym (sets-eq (2 ∷ 0 ∷ k ∷ n ∷ c % 256 ∷ c / 256 ∷ []) out 0 room)) }

pub head_long : (k n c : ℕ) → length (count_bytes 2 ++ (k ∷ n ∷ []) ++ count_bytes c) ≡ 6
unfolding count_bytes
head_long k n c = refl

-- A list that is made of the numbers is made of what another list has at those places.
rows_same : {A B : Type 0} (g : ℕ → List B) (f : A → List B) (a : A) (l : List A) (i : ℕ) → ((q : ℕ) → q < length l → g (i + q) ≡ f (get_or l q a))
    → flat_map g (numbers_from i (length l)) ≡ flat_map f l
unfolding flat_map
rows_same g f a [] i h = refl
rows_same g f a (x ∷ l) i h =
    let here : g i ≡ f x = ap g (sym (add-zero i)) ∙ h 0 (omega arith) in
    let later = rows_same g f a l (suc i) (λ q less. let e : suc i + q ≡ i + suc q = omega arith in ap g e ∙ h (suc q) (omega arith)) in
    rw (here, later)

map_same : {A B : Type 0} (f g : A → B) (l : List A) → ((x : A) → x ∈ l → f x ≡ g x) → map f l ≡ map g l
map_same f g [] h = refl
map_same f g (x ∷ l) h = rw (h x (Memᴰ.head refl), map_same f g l (λ y m. h y (Memᴰ.tail m)))

pub numbers_of : {ranks numbering : List ℕ} {names order : List Field} → NumberedAt ranks numbering names order → (n : ℕ) → length order ≡ n → NumbersIn numbering n
numbers_of numbered n is =
    record { room = numbered.lengths.1; few = omega (arith, numbered.few); low = λ q less. numbered.in_range q (omega arith) }

module _ (nexts outputs ranks numbering : List ℕ) (names order : List Field) (terms : List Term) (at : EntriesAt nexts outputs names terms)
    (numbered : NumberedAt ranks numbering names order) (nexts_in_lem : (t : Term) → t ∈ terms → t.next ∈ names) where
  abbrev term_at : ℕ → ℕ → Option Term
  term_at q i = first (is_about (get_or order q []) i) terms

  module _ (q i : ℕ) (state : q < length order) (input : i < most_inputs) where
    mark_is : get_or nexts (entry_place (get_or numbering q 0) i) 0 ≡ next_mark names (term_at q i)
    mark_is =
        let (m, is) = numbered.inverse q state in
        ap (λ j. get_or nexts (entry_place j i) 0) is ∙ at.next_at (get_or order q []) m i input

    value_is : get_or outputs (entry_place (get_or numbering q 0) i) 0 ≡ output_mark (term_at q i)
    value_is =
        let (m, is) = numbered.inverse q state in
        ap (λ j. get_or outputs (entry_place j i) 0) is ∙ at.output_at (get_or order q []) m i input

    -- the entry of a state and an input that some term is about
    entry_said : 1 ≤ get_or nexts (entry_place (get_or numbering q 0) i) 0 → entry_held nexts outputs ranks (entry_place (get_or numbering q 0) i) ≡ entry_of order (term_at q i)
    entry_said there =
        elim (optional (term_at q i)) [
          | inl nothing ↦ absurd (omega (arith, mark_is ∙ ap (next_mark names) nothing))
          | inr (t, found) ↦
              let (m, about) = first_some _ terms found in
              let named = nexts_in_lem t m in
              let place : get_or nexts (entry_place (get_or numbering q 0) i) 0 - 1 ≡ place_in names t.next = omega (arith, mark_is ∙ ap (next_mark names) found) in
              let rank = ap (λ p. get_or ranks p 0) place ∙ numbered.ranked t.next named in
              let next : get_or ranks (get_or nexts (entry_place (get_or numbering q 0) i) 0 - 1) 0 - 1 ≡ place_in order t.next = omega arith in
              let value = value_is ∙ ap output_mark found in
              rw (next, value, found)
        ]

    -- it is there, where a term is about it
    entry_there : length names ≤ most_states → is_silent (term_at q i) ≡ false → EntryThere nexts ranks (entry_place (get_or numbering q 0) i)
    entry_there few spoken =
        elim (optional (term_at q i)) [
          | inl nothing ↦ clash (ap is_silent nothing) spoken
          | inr (t, found) ↦
              let (m, about) = first_some _ terms found in
              let named = nexts_in_lem t m in
              let mark = mark_is ∙ ap (next_mark names) found in
              let place : get_or nexts (entry_place (get_or numbering q 0) i) 0 - 1 ≡ place_in names t.next = omega arith in
              let rank = ap (λ p. get_or ranks p 0) place ∙ numbered.ranked t.next named in
              record {
                inside = omega (arith, numbered.in_range q state);
                some_next = omega arith;
                low_next = omega (arith, place_below names t.next named);
                some_rank = omega arith;
              }
        ]

  pub tables_of : Tables nexts outputs ranks
  tables_of = record { nexts_room = at.room.0; outputs_room = at.room.1; ranks_room = numbered.lengths.0 }

  -- Where no entry is silent, all are there.
  pub all_there : (n k : ℕ) → length order ≡ n → k ≤ most_inputs → length names ≤ most_states
      → first (λ (q, i). is_silent (first (is_about (get_or order q []) i) terms)) (grid n k) ≡ none → TableThere nexts ranks numbering n k
  all_there n k is few few_names spoken =
      record {
        numbers_in = numbers_of numbered n is;
        few = few;
        there = λ q i state input.
            entry_there q i (omega arith) (omega arith) few_names
            (first-none _ spoken (in_flat_map _ (in_numbers 0 n q (omega arith) (omega arith)) (Memᴰ.map (λ m. (q, m)) (in_numbers 0 k i (omega arith) (omega arith)))));
      }

  module _ (k n : ℕ) (there : TableThere nexts ranks numbering n k) (is : length order ≡ n) where
    abbrev table_said : Table
    table_said = flat_map (λ state. map (λ i. entry_of order (first (is_about state i) terms)) (numbers k)) order

    -- The table that is held is the one that the terms say.
    held_said : table_held nexts outputs ranks numbering k 0 n ≡ table_said
    unfolding table_held row_held
    held_said =
        let row : ℕ → Table = λ p. map (λ m. entry_held nexts outputs ranks (entry_place (get_or numbering p 0) m)) (numbers k) in
        rw (← is)
        (rows_same row (λ state. map (λ i. entry_of order (first (is_about state i) terms)) (numbers k)) [] order 0
        (λ q less.
        ap row (zero-add q)
        ∙ map_same _ _ (numbers k)
        (λ i m.
        let (_, input) = of_numbers 0 k m in
        entry_said q i less (omega (arith, there.few)) (there.there q i (omega arith) (omega arith)).some_next)))

    unit_laid : unit_bytes (record { inputs = k; states = n; table = table_said })
        ≡ (count_bytes 2 ++ (k ∷ n ∷ []) ++ count_bytes (n * k)) ++ held_bytes nexts outputs ranks numbering k 0 n
    unfolding unit_bytes table_bytes held_bytes count_bytes
    unit_laid =
        let long : length table_said ≡ n * k =
        rows_length (λ state i. entry_of order (first (is_about state i) terms)) order (numbers k) ∙ rw (is, numbers_length 0 k)
        in
        rw (held_said, long)

    pub unit_written : {out left last : List ℕ} {p r : ℕ} → Wrote out 0 (count_bytes 2 ++ (k ∷ n ∷ []) ++ count_bytes (n * k)) left p
        → Wrote left p (held_bytes nexts outputs ranks numbering k 0 n) last r → 6 + 2 * (n * k) ≤ length out
        → last ≡ overwritten (unit_bytes (record { inputs = k; states = n; table = table_said })) out
    unit_written {out} head table room =
        let whole = wrote_then head table in
        let bytes = (count_bytes 2 ++ (k ∷ n ∷ []) ++ count_bytes (n * k)) ++ held_bytes nexts outputs ranks numbering k 0 n in
        let long : length bytes ≡ 6 + 2 * (n * k) =
        length-append (count_bytes 2 ++ (k ∷ n ∷ []) ++ count_bytes (n * k)) (held_bytes nexts outputs ranks numbering k 0 n)
        ∙ omega (arith, head_long k n (n * k), held_long nexts outputs ranks numbering k n 0 n)
        in
        let front : 0 + length bytes ≡ length bytes = omega arith in
        let at_front = sets-eq bytes out 0 (omega arith) in
        whole.same ∙ rw unit_laid (rw front at at_front)
