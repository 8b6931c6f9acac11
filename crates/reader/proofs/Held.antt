-- For the crates above: what a file that was read holds at the places that were answered.
use Prim.Native.Nat.{ℕ, zero, suc, ◌+◌, ◌*◌, ◌≤◌, ◌<◌}
use mathlib.Core.Path.{◌≡◌, refl, sym, ap, subst}
use mathlib.Core.List.{List, [], ◌∷◌, flat_map}
use mathlib.Core.Bool.{Bool, true, false, cond}
use native.Mathlib.Omega.{arith}
use borrow.Author.Tests.{ltb-false}
use lib.Dec.{ltb, eqb}
use lib.ListN.{length, drop, length-append}
use Rattle.rules.specs.declared.File.{File}
use Rattle.rules.specs.declared.File.TheVariants.{Dossier, Unit as UnitFile, Sheet}
use Rattle.rules.specs.declared.Fault.TheVariants.{TooLong, BadNumbers}
use Rattle.rules.specs.declared.Refusal.{Refusal}
use Rattle.rules.specs.declared.Refusal.TheVariants.{Malformed}
use Rattle.rules.specs.Sizes.{most_inputs, most_states, most_set_word, most_test_word, most_dossier_bytes, most_unit_bytes, most_sheet_bytes, counts, bound_good}
use Rattle.rules.specs.Words.{Word}
use Rattle.rules.specs.Machines.{Table}
use Rattle.rules.specs.Files.{DossierData, UnitData, SheetRecord, count_bytes, entry_bytes, word_bytes, table_bytes, words_bytes, front_bytes}
use Rattle.rules.specs.Reading.{Got, got, faulty, Reader, judged, count, many, words, table, sheet_record, ending, dossier, unit_table, sheet}
use Rattle.rules.specs.Operations.{Outcome, fine, refuse, opened, read_file, read_dossier, read_unit, read_sheet}
use Rattle.theory.specs.Readers.{reads_count, reads_many}
use Rattle.theory.specs.Sections.{reads_judged-byte, reads_judged-count, reads_words, reads_table, reads_record}
use Rattle.theory.specs.Files.{dossier_sized, unit_sized, sheet_sized}
use Rattle.reader.specs.declared.DossierShape.{DossierShape}
use Rattle.reader.specs.declared.UnitShape.{UnitShape}
use Rattle.reader.specs.declared.SheetShape.{SheetShape}
use Rattle.reader.specs.Places.{entries_at, words_at, records_at, after_word, after_record, TableAt, WordsAt, RecordsAt}
use Rattle.reader.specs.Chains.{bound_number}
use Rattle.std.proofs.Common.{Result, Ok, Err}
use Rattle.reader.specs.Shapes.{file_read, dossier_table, unit_table_place, cover_place, separating_place, tests_place, dossier_shape, dossier_read, unit_shape, unit_read, sheet_shape, sheet_read}
use Rattle.reader.specs.Standing.{DossierStands, UnitStands, SheetStands}
use Rattle.reader_steps.specs.Steps.{count_width}
use Rattle.reader_steps.proofs.Laws.{keeps}
use Rattle.reader_parts.specs.Numbers.{number}
use Rattle.reader.proofs.Joined.{place_count, place_number, place_table, place_words}
use Rattle.reader.proofs.Bridge.{from_got, words-got, table_got, records_got, count-got}

-- c words from p on take a byte each at least
pub words_inside : (s : List ℕ) (p k c : ℕ) → WordsAt s p k c → p + c ≤ length s
words_inside s p k zero stand = omega arith
words_inside s p k (suc c) (word, more) = omega (arith, words_inside s (after_word s p) k c more)

pub records_inside : (s : List ℕ) (p k c : ℕ) → RecordsAt s p k c → p + c ≤ length s
records_inside s p k zero stand = omega arith
records_inside s p k (suc c) (word, inside, more) = omega (arith, records_inside s (after_record s p) k c more)

-- a file that reads well is not too long, and its reader went through it
file_got : {A : Type 0} (f : File) (most : ℕ) (read : Reader A) (s : List ℕ) (a : A) → read_file f most read s ≡ fine a → (length s ≤ most) × (q : ℕ) × (t : List ℕ) × (read 0 s ≡ got a q t)
unfolding read_file
file_got {A} f most read s a e = go (ltb most (length s)) refl (read 0 s) refl e
  where
    go : (b : Bool) → ltb most (length s) ≡ b → (x : Got A) → read 0 s ≡ x → cond b (refuse (Malformed TooLong f 0)) (opened f x) ≡ fine a → (length s ≤ most) × (q : ℕ) × (t : List ℕ) × (read 0 s ≡ got a q t)
    go true over x is e = let z : ◌≡◌ {A = ℕ} 0 1 = cc in absurd (omega arith)
    go false over (faulty fault p) is e = let z : ◌≡◌ {A = ℕ} 0 1 = cc in absurd (omega arith)
    go false over (got a' q t) is e = (ltb-false most (length s) over, q, t, cc)

ending-got : {A : Type 0} (a : A) (p : ℕ) (l : List ℕ) (b : A) (q : ℕ) (t : List ℕ) → ending a p l ≡ got b q t → a ≡ b
unfolding ending
ending-got a p [] b q t e = cc
ending-got a p (x ∷ l) b q t e = let z : ◌≡◌ {A = ℕ} 0 1 = cc in absurd (omega arith)

-- what stands where, of the sections alone
record Sections (s : List ℕ) (d : DossierData) : Type 0 where
  pub table : TableAt s dossier_table d.inputs d.states
  pub entries : entries_at s dossier_table (d.states * d.inputs) ≡ d.table
  pub cover : WordsAt s (cover_place d) d.inputs (length d.cover)
  pub cover_words : words_at s (cover_place d) (length d.cover) ≡ d.cover
  pub separating : WordsAt s (separating_place d) d.inputs (length d.separating)
  pub separating_words : words_at s (separating_place d) (length d.separating) ≡ d.separating
  pub tests : WordsAt s (tests_place d) d.inputs (length d.tests)
  pub tests_words : words_at s (tests_place d) (length d.tests) ≡ d.tests

module _ (s : List ℕ) (three k n m : ℕ) (es : Table) (cover separating tests : List Word) (p₁ p₂ p₃ p₄ p₅ p₆ p₇ p₈ : ℕ) where
  laid : judged (eqb 3) BadNumbers count 0 s ≡ got three p₁ (drop p₁ s) → number most_inputs p₁ (drop p₁ s) ≡ got k p₂ (drop p₂ s) → number most_states p₂ (drop p₂ s) ≡ got n p₃ (drop p₃ s)
      → bound_number n p₃ (drop p₃ s) ≡ got m p₄ (drop p₄ s) → table k n p₄ (drop p₄ s) ≡ got es p₅ (drop p₅ s) → words k most_set_word p₅ (drop p₅ s) ≡ got cover p₆ (drop p₆ s)
      → words k most_set_word p₆ (drop p₆ s) ≡ got separating p₇ (drop p₇ s) → words k most_test_word p₇ (drop p₇ s) ≡ got tests p₈ (drop p₈ s) → 0 < n
      → Sections s (record { inputs = k; states = n; bound_byte = m; table = es; cover = cover; separating = separating; tests = tests })
  unfolding cover_place separating_place tests_place
  laid e₁ e₂ e₃ e₄ e₅ e₆ e₇ e₈ some =
      let h₁ = place_count (eqb 3) 0 s three p₁ (drop p₁ s) e₁ in
      let h₂ = place_number (counts most_inputs) p₁ (drop p₁ s) k p₂ (drop p₂ s) e₂ in
      let h₃ = place_number (counts most_states) p₂ (drop p₂ s) n p₃ (drop p₃ s) e₃ in
      let h₄ = place_number (bound_good n) p₃ (drop p₃ s) m p₄ (drop p₄ s) e₄ in
      let h₅ = place_table k n p₄ (drop p₄ s) es p₅ (drop p₅ s) e₅ in
      let h₆ = place_words k most_set_word p₅ (drop p₅ s) cover p₆ (drop p₆ s) e₆ in
      let h₇ = place_words k most_set_word p₆ (drop p₆ s) separating p₇ (drop p₇ s) e₇ in
      let at_table : dossier_table ≡ p₄ + 2 = omega arith in
      let at_cover_lem : dossier_table + length (flat_map entry_bytes es) + 2 ≡ p₅ + 2 = omega arith in
      let at_separating : dossier_table + length (flat_map entry_bytes es) + 2 + length (flat_map word_bytes cover) + 2 ≡ p₆ + 2 = omega arith in
      let at_tests : dossier_table + length (flat_map entry_bytes es) + 2 + length (flat_map word_bytes cover) + 2 + length (flat_map word_bytes separating) + 2 ≡ p₇ + 2 = omega arith in
      let (table_stands, entries) = table_got s k n p₄ es p₅ (drop p₅ s) some e₅ in
      let (cover_stands, cover_words) = words-got s k most_set_word p₅ cover p₆ (drop p₆ s) e₆ in
      let (separating_stands, separating_words) = words-got s k most_set_word p₆ separating p₇ (drop p₇ s) e₇ in
      let (tests_stand, tests_words) = words-got s k most_test_word p₇ tests p₈ (drop p₈ s) e₈ in
      record {
        table = rw at_table table_stands;
        entries = rw at_table entries;
        cover = rw at_cover_lem cover_stands;
        cover_words = rw at_cover_lem cover_words;
        separating = rw at_separating separating_stands;
        separating_words = rw at_separating separating_words;
        tests = rw at_tests tests_stand;
        tests_words = rw at_tests tests_words;
      }

dossier_sections : (s : List ℕ) (d : DossierData) (q : ℕ) (t : List ℕ) → 0 < d.states → dossier 0 s ≡ got d q t → Sections s d
unfolding dossier
dossier_sections s d q t some e =
    from_got s (judged (eqb 3) BadNumbers count 0 s) _ d q t (keeps (reads_judged-count (eqb 3) BadNumbers tt) s 0) e
    (λ three p₁ e₁ r₁. from_got s (number most_inputs p₁ (drop p₁ s)) _ d q t (keeps (reads_judged-byte (counts most_inputs) BadNumbers tt) s p₁) r₁
    (λ k p₂ e₂ r₂. from_got s (number most_states p₂ (drop p₂ s)) _ d q t (keeps (reads_judged-byte (counts most_states) BadNumbers tt) s p₂) r₂
    (λ n p₃ e₃ r₃. from_got s (bound_number n p₃ (drop p₃ s)) _ d q t (keeps (reads_judged-byte (bound_good n) BadNumbers tt) s p₃) r₃
    (λ m p₄ e₄ r₄. from_got s (table k n p₄ (drop p₄ s)) _ d q t (keeps (reads_table k n) s p₄) r₄
    (λ es p₅ e₅ r₅. from_got s (words k most_set_word p₅ (drop p₅ s)) _ d q t (keeps (reads_words k most_set_word) s p₅) r₅
    (λ cover p₆ e₆ r₆. from_got s (words k most_set_word p₆ (drop p₆ s)) _ d q t (keeps (reads_words k most_set_word) s p₆) r₆
    (λ separating p₇ e₇ r₇. from_got s (words k most_test_word p₇ (drop p₇ s)) _ d q t (keeps (reads_words k most_test_word) s p₇) r₇
    (λ tests p₈ e₈ r₈.
    let is = ending-got (record { inputs = k; states = n; bound_byte = m; table = es; cover = cover; separating = separating; tests = tests }) p₈ (drop p₈ s) d q t r₈ in
    let some' : 0 < n = subst (λ x. 0 < x) (sym (ap (λ d. d.states) is)) some in
    subst (λ d. Sections s d) is (laid s three k n m es cover separating tests p₁ p₂ p₃ p₄ p₅ p₆ p₇ p₈ e₁ e₂ e₃ e₄ e₅ e₆ e₇ e₈ some')))))))))

-- What the bytes of a dossier that reads well hold at the places of its shape.
pub dossier_stands : (s : List ℕ) (d : DossierData) → read_dossier s ≡ fine d → DossierStands s (dossier_shape d) d
dossier_stands s d e =
    let (size, q, t, read) = file_got Dossier most_dossier_bytes dossier s d e in
    let sized = dossier_sized s d e in
    let x = dossier_sections s d q t sized.golden.some_state read in
    record {
      size = size;
      sized = sized;
      inputs = refl;
      states = refl;
      bound_byte = refl;
      table = x.table;
      entries = x.entries;
      cover = x.cover;
      cover_words = x.cover_words;
      cover_inside = words_inside s (cover_place d) d.inputs (length d.cover) x.cover;
      separating = x.separating;
      separating_words = x.separating_words;
      separating_inside = words_inside s (separating_place d) d.inputs (length d.separating) x.separating;
      tests = x.tests;
      tests_words = x.tests_words;
      tests_inside = words_inside s (tests_place d) d.inputs (length d.tests) x.tests;
    }

-- The answer of a file that reads well, or does not.
module _ {A X : Type 0} (shape : A → X) (r : Result X Refusal) where
  was_fine : (y : Outcome A) (x : X) → r ≡ file_read shape y → r ≡ Ok x → (a : A) × (y ≡ fine a) × (shape a ≡ x)
  was_fine (fine a) x e is = (a, refl, cc)
  was_fine (refuse f) x e is = cc

  was_refused : (y : Outcome A) (f : Refusal) → r ≡ file_read shape y → r ≡ Err f → y ≡ refuse f
  was_refused (fine a) f e is = cc
  was_refused (refuse f') f e is = cc

-- The answer x of `read_dossier` is that of a dossier that reads well, and stands there.
pub dossier_held : (s : List ℕ) (r : Result DossierShape Refusal) (x : DossierShape) → r ≡ dossier_read (read_dossier s) → r ≡ Ok x → (d : DossierData) × (read_dossier s ≡ fine d) × DossierStands s x d
dossier_held s r x e is =
    let (d, read, same) = was_fine dossier_shape r (read_dossier s) x e is in
    (d, read, subst (λ x. DossierStands s x d) same (dossier_stands s d read))

pub dossier_not_held : (s : List ℕ) (r : Result DossierShape Refusal) (f : Refusal) → r ≡ dossier_read (read_dossier s) → r ≡ Err f → read_dossier s ≡ refuse f
dossier_not_held s r f e is = was_refused dossier_shape r (read_dossier s) f e is

-- the tests' words start after the front's bytes and the tests' count
pub tests_place_lem : (d : DossierData) → length (front_bytes d) + 2 ≡ tests_place d
unfolding front_bytes table_bytes words_bytes count_bytes cover_place separating_place tests_place
tests_place_lem d = simp length-append (omega arith)

-- The same of a unit.
unit_table_lem : (s : List ℕ) (u : UnitData) (q : ℕ) (t : List ℕ) → 0 < u.states → unit_table 0 s ≡ got u q t
    → TableAt s unit_table_place u.inputs u.states × (entries_at s unit_table_place (u.states * u.inputs) ≡ u.table)
unfolding unit_table
unit_table_lem s u q t some e =
    from_got s (judged (eqb 2) BadNumbers count 0 s) _ u q t (keeps (reads_judged-count (eqb 2) BadNumbers tt) s 0) e
    (λ two p₁ e₁ r₁. from_got s (number most_inputs p₁ (drop p₁ s)) _ u q t (keeps (reads_judged-byte (counts most_inputs) BadNumbers tt) s p₁) r₁
    (λ k p₂ e₂ r₂. from_got s (number most_states p₂ (drop p₂ s)) _ u q t (keeps (reads_judged-byte (counts most_states) BadNumbers tt) s p₂) r₂
    (λ n p₃ e₃ r₃. from_got s (table k n p₃ (drop p₃ s)) _ u q t (keeps (reads_table k n) s p₃) r₃
    (λ es p₄ e₄ r₄.
    let h₁ = place_count (eqb 2) 0 s two p₁ (drop p₁ s) e₁ in
    let h₂ = place_number (counts most_inputs) p₁ (drop p₁ s) k p₂ (drop p₂ s) e₂ in
    let h₃ = place_number (counts most_states) p₂ (drop p₂ s) n p₃ (drop p₃ s) e₃ in
    let at_table : p₃ + 2 ≡ unit_table_place = omega arith in
    let is = ending-got (record { inputs = k; states = n; table = es }) p₄ (drop p₄ s) u q t r₄ in
    let some' : 0 < n = subst (λ x. 0 < x) (sym (ap (λ u. u.states) is)) some in
    subst (λ u. TableAt s unit_table_place u.inputs u.states × (entries_at s unit_table_place (u.states * u.inputs) ≡ u.table)) is
    (subst (λ p. TableAt s p k n × (entries_at s p (n * k) ≡ es)) at_table (table_got s k n p₃ es p₄ (drop p₄ s) some' e₄))))))

pub unit_stands : (s : List ℕ) (u : UnitData) → read_unit s ≡ fine u → UnitStands s (unit_shape u) u
unit_stands s u e =
    let (size, q, t, read) = file_got UnitFile most_unit_bytes unit_table s u e in
    let sized = unit_sized s u e in
    let (table_stands, entries) = unit_table_lem s u q t sized.machine.some_state read in
    record { size = size; sized = sized; inputs = refl; states = refl; table = table_stands; entries = entries }

pub unit_held : (s : List ℕ) (r : Result UnitShape Refusal) (x : UnitShape) → r ≡ unit_read (read_unit s) → r ≡ Ok x → (u : UnitData) × (read_unit s ≡ fine u) × UnitStands s x u
unit_held s r x e is =
    let (u, read, same) = was_fine unit_shape r (read_unit s) x e is in
    (u, read, subst (λ x. UnitStands s x u) same (unit_stands s u read))

pub unit_not_held : (s : List ℕ) (r : Result UnitShape Refusal) (f : Refusal) → r ≡ unit_read (read_unit s) → r ≡ Err f → read_unit s ≡ refuse f
unit_not_held s r f e is = was_refused unit_shape r (read_unit s) f e is

-- The same of a sheet.
sheet_records : (k : ℕ) (s : List ℕ) (rs : List SheetRecord) (q : ℕ) (t : List ℕ) → sheet k 0 s ≡ got rs q t → RecordsAt s count_width k (length rs) × (records_at s count_width (length rs) ≡ rs)
unfolding sheet
sheet_records k s rs q t e =
    from_got s (count 0 s) _ rs q t (keeps reads_count s 0) e
    (λ c p₁ e₁ r₁. from_got s (many (sheet_record k) c p₁ (drop p₁ s)) _ rs q t (keeps (reads_many (reads_record k) c) s p₁) r₁
    (λ rs' p₂ e₂ r₂.
    let is = ending-got rs' p₂ (drop p₂ s) rs q t r₂ in
    let (place, inside) = count-got s 0 c p₁ (drop p₁ s) e₁ in
    let long : length rs' ≡ c = ((reads_many (reads_record k) c).taken p₁ (drop p₁ s) rs' p₂ (drop p₂ s) e₂).rule.0 in
    let inside' : p₁ ≤ length s = omega arith in
    subst (λ rs. RecordsAt s count_width k (length rs) × (records_at s count_width (length rs) ≡ rs)) is
    (subst (λ p. RecordsAt s p k (length rs') × (records_at s p (length rs') ≡ rs')) place
    (subst (λ n. RecordsAt s p₁ k n × (records_at s p₁ n ≡ rs')) (sym long) (records_got s k c p₁ rs' p₂ (drop p₂ s) inside' e₂)))))

pub sheet_stands : (k : ℕ) (s : List ℕ) (rs : List SheetRecord) → read_sheet k s ≡ fine rs → SheetStands s k (sheet_shape rs) rs
sheet_stands k s rs e =
    let (size, q, t, read) = file_got Sheet most_sheet_bytes (sheet k) s rs e in
    let (stand, are) = sheet_records k s rs q t read in
    record {
      size = size;
      sized = sheet_sized k s rs e;
      records = stand;
      records_are = are;
      inside = records_inside s count_width k (length rs) stand;
    }

pub sheet_held : (k : ℕ) (s : List ℕ) (r : Result SheetShape Refusal) (x : SheetShape) → r ≡ sheet_read (read_sheet k s) → r ≡ Ok x → (rs : List SheetRecord) × (read_sheet k s ≡ fine rs) × SheetStands s k x rs
sheet_held k s r x e is =
    let (rs, read, same) = was_fine sheet_shape r (read_sheet k s) x e is in
    (rs, read, subst (λ x. SheetStands s k x rs) same (sheet_stands k s rs read))

pub sheet_not_held : (k : ℕ) (s : List ℕ) (r : Result SheetShape Refusal) (f : Refusal) → r ≡ sheet_read (read_sheet k s) → r ≡ Err f → read_sheet k s ≡ refuse f
sheet_not_held k s r f e is = was_refused sheet_shape r (read_sheet k s) f e is
