-- Laws of whole files: each section is joined to those after it, and what is read for the places has the places of what the rules
-- read.
use Prim.Native.Nat.{ℕ, ◌+◌, ◌≤◌, ◌<◌}
use mathlib.Core.Path.{◌≡◌, refl, sym, ap, ◌∙◌}
use mathlib.Core.List.{List, [], ◌∷◌, flat_map}
use mathlib.Core.Bool.{Bool}
use native.Mathlib.Decide.{dec_lt}
use native.Mathlib.Omega.{arith}
use borrow.Author.Tests.{lt-ltb, le-ltb}
use lib.Dec.{eqb}
use lib.ListN.{length, drop, drop_of_length-le}
use lib.Seq.{drop-cons}
use Rattle.std.proofs.Common.{Result, Ok, Err}
use Rattle.rules.specs.declared.Fault.{Fault}
use Rattle.rules.specs.declared.Fault.TheVariants.{TooLong, Trailing, BadNumbers}
use Rattle.rules.specs.declared.File.{File}
use Rattle.rules.specs.declared.File.TheVariants.{Dossier, Unit as UnitFile, Sheet}
use Rattle.rules.specs.declared.Refusal.{Refusal}
use Rattle.rules.specs.declared.Refusal.TheVariants.{Malformed}
use Rattle.rules.specs.Sizes.{most_inputs, most_states, most_set_word, most_test_word, most_dossier_bytes, most_unit_bytes, most_sheet_bytes, counts, bound_good}
use Rattle.rules.specs.Words.{Word}
use Rattle.rules.specs.Files.{DossierData, UnitData, SheetRecord, count_bytes, entry_bytes, word_bytes, table_bytes, words_bytes}
use Rattle.rules.specs.Machines.{Table}
use Rattle.rules.specs.Reading.{Got, got, faulty, Reader, then, byte, judged, count, many, words, table, sheet_record, ending, dossier, unit_table, sheet}
use Rattle.rules.specs.Operations.{opened, read_file, read_dossier, read_unit, read_sheet}
use Rattle.theory.specs.Readers.{reads_count, reads_many}
use Rattle.theory.specs.Sections.{reads_judged-byte, reads_judged-count, reads_words, reads_table, reads_record}
use Rattle.reader_steps.specs.declared.Stop.{Stop}
use Rattle.reader_steps.specs.declared.Section.{Section}
use Rattle.reader_parts.specs.declared.Sizes.{Sizes}
use Rattle.reader.specs.declared.DossierShape.{DossierShape}
use Rattle.reader.specs.declared.UnitShape.{UnitShape}
use Rattle.reader.specs.declared.SheetShape.{SheetShape}
use Rattle.reader.specs.Shapes.{refused_in, unit_table_place, cover_place, separating_place, tests_place, dossier_table, dossier_shape, dossier_read, unit_shape, unit_read, sheet_shape, sheet_read}
use Rattle.reader_steps.specs.Steps.{answered, step, number_read, words_from, section}
use Rattle.reader_parts.specs.Numbers.{sizes_are, sizes_read, number, sizes}
use Rattle.reader.specs.Chains.{bound_number, placed, shape_of, dossier_from_tests, dossier_from_separating, dossier_from_cover, dossier_from_table, dossier_from_bound, dossier_places, unit_from_table, unit_places, sheet_from_records, sheet_places}
use Rattle.reader_steps.proofs.Laws.{Kept, keeps, then_kept}
use Rattle.reader_steps.proofs.Sections.{count_place}

-- the end of a file
module _ {A : Type 0} (x : A) (s : List ℕ) (p : ℕ) where
  pub ending_more : p < length s → ending x p (drop p s) ≡ faulty Trailing p
  unfolding ending
  ending_more more = rw (drop-cons s p 0 more)

  pub ending_here : length s ≤ p → ending x p (drop p s) ≡ got x p []
  unfolding ending
  ending_here none = rw (drop_of_length-le s none)

-- What follows a section, which was seen as b and ended at its place.
on : {A B C : Type 0} (seen : A → ℕ → B) (place : B → ℕ) → ((a : A) (q : ℕ) → place (seen a q) ≡ q) → (s : List ℕ) (x : Got A) → Kept s x → (next : B → Reader C) (b : B) → Ok b ≡ answered seen x
    → placed (next b (place b) (drop (place b) s)) ≡ placed (then x (λ a q. next (seen a q) q))
on seen place there s (got a q l) kept next b is =
    let same : b ≡ seen a q = cc in
    rw (same, there a q, kept)
on seen place there s (faulty f q) kept next b is = cc

-- a file's numbers keep to the file
kept_sizes : (s : List ℕ) (c p : ℕ) → Kept s (sizes c p (drop p s))
unfolding sizes
kept_sizes s c p =
    then_kept s (judged (eqb c) BadNumbers count p (drop p s)) _ (keeps (reads_judged-count (eqb c) BadNumbers tt) s p)
    (λ x q. then_kept s (number most_inputs q (drop q s)) _ (keeps (reads_judged-byte (counts most_inputs) BadNumbers tt) s q)
    (λ k q'. then_kept s (number most_states q' (drop q' s)) _ (keeps (reads_judged-byte (counts most_states) BadNumbers tt) s q') (λ n q''. refl)))

-- The dossier from a section on. r is the program's answer.
module _ (s : List ℕ) (r : Result DossierShape Stop) where
  pub after_sizes : (z : Sizes) → Ok z ≡ sizes_read (sizes 3 0 s) → r ≡ placed (dossier_from_bound z z.next (drop z.next s)) → r ≡ placed (dossier_places 0 s)
  unfolding dossier_places
  after_sizes z is more = more ∙ on sizes_are (λ z. z.next) (λ a q. refl) s (sizes 3 0 s) (kept_sizes s 3 0) (λ z. dossier_from_bound z) z is

  module _ (z : Sizes) where
    pub after_bound : (p m q : ℕ) → Ok (m, q) ≡ number_read (bound_number z.states p (drop p s)) → r ≡ placed (dossier_from_table z m q (drop q s)) → r ≡ placed (dossier_from_bound z p (drop p s))
    unfolding dossier_from_bound
    after_bound p m q is more =
        more ∙ on (λ b q. (b, q)) (λ x. x.1) (λ a q. refl) s (bound_number z.states p (drop p s)) (keeps (reads_judged-byte (bound_good z.states) BadNumbers tt) s p) (λ x. dossier_from_table z x.0) (m, q) is

    module _ (m : ℕ) where
      pub after_table : (p q : ℕ) → Ok q ≡ step (table z.inputs z.states p (drop p s)) → r ≡ placed (dossier_from_cover z m q (drop q s)) → r ≡ placed (dossier_from_table z m p (drop p s))
      unfolding dossier_from_table
      after_table p q is more =
          more ∙ on (λ t q. q) (λ q. q) (λ a q. refl) s (table z.inputs z.states p (drop p s)) (keeps (reads_table z.inputs z.states) s p) (λ q. dossier_from_cover z m) q is

      after_words : (most p : ℕ) (next : Section → Reader DossierShape) (w : Section) → Ok w ≡ section p (words z.inputs most p (drop p s)) → r ≡ placed (next w w.next (drop w.next s))
          → r ≡ placed (then (words z.inputs most p (drop p s)) (λ ws q. next (words_from p ws q) q))
      after_words most p next w is more =
          more ∙ on (words_from p) (λ w. w.next) (λ a q. refl) s (words z.inputs most p (drop p s)) (keeps (reads_words z.inputs most) s p) next w is

      pub after_cover : (p : ℕ) (cover : Section) → Ok cover ≡ section p (words z.inputs most_set_word p (drop p s)) → r ≡ placed (dossier_from_separating z m cover cover.next (drop cover.next s))
          → r ≡ placed (dossier_from_cover z m p (drop p s))
      unfolding dossier_from_cover
      after_cover p cover is more = after_words most_set_word p (λ w. dossier_from_separating z m w) cover is more

      pub after_separating : (p : ℕ) (cover w : Section) → Ok w ≡ section p (words z.inputs most_set_word p (drop p s)) → r ≡ placed (dossier_from_tests z m cover w w.next (drop w.next s))
          → r ≡ placed (dossier_from_separating z m cover p (drop p s))
      unfolding dossier_from_separating
      after_separating p cover w is more = after_words most_set_word p (λ w. dossier_from_tests z m cover w) w is more

      pub after_tests : (p : ℕ) (cover separating w : Section) → Ok w ≡ section p (words z.inputs most_test_word p (drop p s)) → r ≡ placed (ending (shape_of z m cover separating w) w.next (drop w.next s))
          → r ≡ placed (dossier_from_tests z m cover separating p (drop p s))
      unfolding dossier_from_tests
      after_tests p cover separating w is more = after_words most_test_word p (λ w. ending (shape_of z m cover separating w)) w is more

-- The unit.
module _ (s : List ℕ) (r : Result UnitShape Stop) where
  pub after_unit-sizes : (z : Sizes) → Ok z ≡ sizes_read (sizes 2 0 s) → r ≡ placed (unit_from_table z z.next (drop z.next s)) → r ≡ placed (unit_places 0 s)
  unfolding unit_places
  after_unit-sizes z is more = more ∙ on sizes_are (λ z. z.next) (λ a q. refl) s (sizes 2 0 s) (kept_sizes s 2 0) (λ z. unit_from_table z) z is

  pub after_unit-table : (z : Sizes) (p q : ℕ) → Ok q ≡ step (table z.inputs z.states p (drop p s)) → r ≡ placed (ending (record { inputs = z.inputs; states = z.states; table = unit_table_place }) q (drop q s))
      → r ≡ placed (unit_from_table z p (drop p s))
  unfolding unit_from_table
  after_unit-table z p q is more =
      more ∙ on (λ t q. q) (λ q. q) (λ a q. refl) s (table z.inputs z.states p (drop p s)) (keeps (reads_table z.inputs z.states) s p) (λ q. ending (record { inputs = z.inputs; states = z.states; table = unit_table_place })) q is

-- The sheet.
module _ (s : List ℕ) (r : Result SheetShape Stop) (k : ℕ) where
  pub after_count : (c q : ℕ) → Ok (c, q) ≡ number_read (count 0 s) → r ≡ placed (sheet_from_records k c q (drop q s)) → r ≡ placed (sheet_places k 0 s)
  unfolding sheet_places
  after_count c q is more = more ∙ on (λ c q. (c, q)) (λ x. x.1) (λ a q. refl) s (count 0 s) (keeps reads_count s 0) (λ x. sheet_from_records k x.0) (c, q) is

  pub after_records : (c p q : ℕ) → Ok q ≡ step (many (sheet_record k) c p (drop p s)) → r ≡ placed (ending (record { records = p; count = c }) q (drop q s)) → r ≡ placed (sheet_from_records k c p (drop p s))
  unfolding sheet_from_records
  after_records c p q is more =
      more ∙ on (λ rs q. q) (λ q. q) (λ a q. refl) s (many (sheet_record k) c p (drop p s)) (keeps (reads_many (reads_record k) c) s p) (λ q. ending (record { records = p; count = c })) q is

-- Two readings that go on from the same first step are seen alike where what follows it is.
module _ {A D X R : Type 0} (shown : Got D → R) (placed : Got X → R) (same : (fault : Fault) (p : ℕ) → shown (faulty fault p) ≡ placed (faulty fault p)) where
  then_same : (x : Got A) (g : A → Reader D) (h : A → Reader X) → ((a : A) (q : ℕ) (t : List ℕ) → x ≡ got a q t → shown (g a q t) ≡ placed (h a q t)) → shown (then x g) ≡ placed (then x h)
  then_same (got a q t) g h each = each a q t refl
  then_same (faulty fault p) g h each = same fault p

  -- where the second one reads the first step within another
  then_same_in : {C : Type 0} (x : Got A) (g : A → Reader D) (f : A → Reader C) (h : C → Reader X) → ((a : A) (q : ℕ) (t : List ℕ) → x ≡ got a q t → shown (g a q t) ≡ placed (then (f a q t) h))
      → shown (then x g) ≡ placed (then (then x f) h)
  then_same_in (got a q t) g f h each = each a q t refl
  then_same_in (faulty fault p) g f h each = same fault p

-- the places after what was read
pub place_count : (good : ℕ → Bool) (p : ℕ) (l : List ℕ) (c q : ℕ) (t : List ℕ) → judged good BadNumbers count p l ≡ got c q t → q ≡ p + 2
unfolding count_bytes
place_count good p l c q t e = let y = (reads_judged-count good BadNumbers tt).taken p l c q t e in omega (arith, y.place, y.spells.0)

pub place_number : (good : ℕ → Bool) (p : ℕ) (l : List ℕ) (b q : ℕ) (t : List ℕ) → judged good BadNumbers byte p l ≡ got b q t → q ≡ p + 1
place_number good p l b q t e = let y = (reads_judged-byte good BadNumbers tt).taken p l b q t e in omega (arith, y.place, y.spells.0)

pub place_table : (k n p : ℕ) (l : List ℕ) (es : Table) (q : ℕ) (t : List ℕ) → table k n p l ≡ got es q t → q ≡ p + 2 + length (flat_map entry_bytes es)
unfolding table_bytes count_bytes
place_table k n p l es q t e = let y = (reads_table k n).taken p l es q t e in omega (arith, y.place, y.spells.0)

pub place_words : (k most p : ℕ) (l : List ℕ) (ws : List Word) (q : ℕ) (t : List ℕ) → words k most p l ≡ got ws q t → q ≡ p + 2 + length (flat_map word_bytes ws)
unfolding words_bytes count_bytes
place_words k most p l ws q t e = let y = (reads_words k most).taken p l ws q t e in omega (arith, y.place, y.spells.0)

-- the program's answer of the places that were read
abbrev pub answer : {X : Type 0} → File → Got X → Result X Refusal
answer f x = refused_in f (placed x)

-- the answer of a file, too long or not
pub file_is : {X : Type 0} (s : List ℕ) (f : File) (most : ℕ) (r want : Result X Refusal) (places : Got X) → (most < length s → r ≡ Err (Malformed TooLong f 0))
    → (length s ≤ most → (a : Result X Stop) × (a ≡ placed places) × (r ≡ refused_in f a)) → (most < length s → Err (Malformed TooLong f 0) ≡ want) → (length s ≤ most → answer f places ≡ want) → r ≡ want
file_is s f most r want places long short if_long if_short =
    elim (dec_lt most (length s)) [
      | yes over ↦ long over ∙ if_long over
      | no under ↦ let h : length s ≤ most = omega arith in let (a, read, is) = short h in is ∙ ap (refused_in f) read ∙ if_short h
    ]

-- A dossier seen as the program answers it.
abbrev dossier_shown : Got DossierData → Result DossierShape Refusal
dossier_shown x = dossier_read (opened Dossier x)

dossier_same : (d : DossierData) (x : DossierShape) (p : ℕ) (l : List ℕ) → dossier_shape d ≡ x → dossier_shown (ending d p l) ≡ answer Dossier (ending x p l)
unfolding ending
dossier_same d x p [] is = rw is
dossier_same d x p (b ∷ l) is = refl

shape_is : (d : DossierData) (cover separating tests : ℕ) → cover ≡ cover_place d → separating ≡ separating_place d → tests ≡ tests_place d
    → dossier_shape d ≡ record { inputs = d.inputs; states = d.states; bound_byte = d.bound_byte; table = dossier_table; cover = cover; covers = length d.cover; separating = separating; separators = length d.separating; tests = tests; count = length d.tests }
shape_is d cover separating tests c s t = rw (c, s, t)

dossier_placed_lem : (s : List ℕ) → dossier_shown (dossier 0 s) ≡ answer Dossier (dossier_places 0 s)
unfolding dossier dossier_places sizes dossier_from_bound dossier_from_table dossier_from_cover dossier_from_separating dossier_from_tests cover_place separating_place tests_place
dossier_placed_lem s =
    then_same_in dossier_shown (answer Dossier) (λ f p. refl) (judged (eqb 3) BadNumbers count 0 s) _ _ _
    (λ three p₁ l₁ e₁. then_same_in dossier_shown (answer Dossier) (λ f p. refl) (number most_inputs p₁ l₁) _ _ _
    (λ k p₂ l₂ e₂. then_same_in dossier_shown (answer Dossier) (λ f p. refl) (number most_states p₂ l₂) _ _ _
    (λ n p₃ l₃ e₃. then_same dossier_shown (answer Dossier) (λ f p. refl) (bound_number n p₃ l₃) _ _
    (λ m p₄ l₄ e₄. then_same dossier_shown (answer Dossier) (λ f p. refl) (table k n p₄ l₄) _ _
    (λ es p₅ l₅ e₅. then_same dossier_shown (answer Dossier) (λ f p. refl) (words k most_set_word p₅ l₅) _ _
    (λ cover p₆ l₆ e₆. then_same dossier_shown (answer Dossier) (λ f p. refl) (words k most_set_word p₆ l₆) _ _
    (λ separating p₇ l₇ e₇. then_same dossier_shown (answer Dossier) (λ f p. refl) (words k most_test_word p₇ l₇) _ _
    (λ tests p₈ l₈ e₈.
    let h₁ = place_count (eqb 3) 0 s three p₁ l₁ e₁ in
    let h₂ = place_number (counts most_inputs) p₁ l₁ k p₂ l₂ e₂ in
    let h₃ = place_number (counts most_states) p₂ l₂ n p₃ l₃ e₃ in
    let h₄ = place_number (bound_good n) p₃ l₃ m p₄ l₄ e₄ in
    let h₅ = place_table k n p₄ l₄ es p₅ l₅ e₅ in
    let h₆ = place_words k most_set_word p₅ l₅ cover p₆ l₆ e₆ in
    let h₇ = place_words k most_set_word p₆ l₆ separating p₇ l₇ e₇ in
    let d : DossierData = record { inputs = k; states = n; bound_byte = m; table = es; cover = cover; separating = separating; tests = tests } in
    dossier_same d _ p₈ l₈ (shape_is d (p₅ + 2) (p₆ + 2) (p₇ + 2) (omega arith) (omega arith) (omega arith))))))))))

pub dossier_short : (s : List ℕ) → length s ≤ most_dossier_bytes → answer Dossier (dossier_places 0 s) ≡ dossier_read (read_dossier s)
unfolding read_file
dossier_short s short = rw (le-ltb most_dossier_bytes (length s) short) (sym (dossier_placed_lem s))

pub dossier_long : (s : List ℕ) → most_dossier_bytes < length s → Err (Malformed TooLong Dossier 0) ≡ dossier_read (read_dossier s)
unfolding read_file
dossier_long s long = rw (lt-ltb most_dossier_bytes (length s) long)

-- A unit.
abbrev unit_shown : Got UnitData → Result UnitShape Refusal
unit_shown x = unit_read (opened UnitFile x)

unit_same : (u : UnitData) (p : ℕ) (l : List ℕ) → unit_shown (ending u p l) ≡ answer UnitFile (ending (unit_shape u) p l)
unfolding ending
unit_same u p [] = refl
unit_same u p (b ∷ l) = refl

unit_placed_lem : (s : List ℕ) → unit_shown (unit_table 0 s) ≡ answer UnitFile (unit_places 0 s)
unfolding unit_table unit_places sizes unit_from_table
unit_placed_lem s =
    then_same_in unit_shown (answer UnitFile) (λ f p. refl) (judged (eqb 2) BadNumbers count 0 s) _ _ _
    (λ two p₁ l₁ e₁. then_same_in unit_shown (answer UnitFile) (λ f p. refl) (number most_inputs p₁ l₁) _ _ _
    (λ k p₂ l₂ e₂. then_same_in unit_shown (answer UnitFile) (λ f p. refl) (number most_states p₂ l₂) _ _ _
    (λ n p₃ l₃ e₃. then_same unit_shown (answer UnitFile) (λ f p. refl) (table k n p₃ l₃) _ _
    (λ es p₄ l₄ e₄. unit_same (record { inputs = k; states = n; table = es }) p₄ l₄))))

pub unit_short : (s : List ℕ) → length s ≤ most_unit_bytes → answer UnitFile (unit_places 0 s) ≡ unit_read (read_unit s)
unfolding read_file
unit_short s short = rw (le-ltb most_unit_bytes (length s) short) (sym (unit_placed_lem s))

pub unit_long : (s : List ℕ) → most_unit_bytes < length s → Err (Malformed TooLong UnitFile 0) ≡ unit_read (read_unit s)
unfolding read_file
unit_long s long = rw (lt-ltb most_unit_bytes (length s) long)

-- A sheet.
abbrev sheet_shown : Got (List SheetRecord) → Result SheetShape Refusal
sheet_shown x = sheet_read (opened Sheet x)

sheet_same : (rs : List SheetRecord) (x : SheetShape) (p : ℕ) (l : List ℕ) → sheet_shape rs ≡ x → sheet_shown (ending rs p l) ≡ answer Sheet (ending x p l)
unfolding ending
sheet_same rs x p [] is = rw is
sheet_same rs x p (b ∷ l) is = refl

sheet_placed_lem : (k : ℕ) (s : List ℕ) → sheet_shown (sheet k 0 s) ≡ answer Sheet (sheet_places k 0 s)
unfolding sheet sheet_places sheet_from_records
sheet_placed_lem k s =
    then_same sheet_shown (answer Sheet) (λ f p. refl) (count 0 s) _ _
    (λ c p₁ l₁ e₁. then_same sheet_shown (answer Sheet) (λ f p. refl) (many (sheet_record k) c p₁ l₁) _ _
    (λ rs p₂ l₂ e₂.
    let h₁ : 2 ≡ p₁ = sym (count_place 0 s c p₁ l₁ e₁) in
    let h₂ = ((reads_many (reads_record k) c).taken p₁ l₁ rs p₂ l₂ e₂).rule.0 in
    sheet_same rs _ p₂ l₂ (rw (h₁, h₂))))

pub sheet_short : (k : ℕ) (s : List ℕ) → length s ≤ most_sheet_bytes → answer Sheet (sheet_places k 0 s) ≡ sheet_read (read_sheet k s)
unfolding read_file
sheet_short k s short = rw (le-ltb most_sheet_bytes (length s) short) (sym (sheet_placed_lem k s))

pub sheet_long : (k : ℕ) (s : List ℕ) → most_sheet_bytes < length s → Err (Malformed TooLong Sheet 0) ≡ sheet_read (read_sheet k s)
unfolding read_file
sheet_long k s long = rw (lt-ltb most_sheet_bytes (length s) long)
