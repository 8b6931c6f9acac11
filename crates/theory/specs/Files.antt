-- Document 01, "The three files" and the refusals 1 to 6: a file that is well formed holds what is within the sizes, and is its bytes
-- and nothing else; of one that is not, the refusal says where it goes wrong.
use Rattle.std.specs.Prelude.{ℕ, zero, suc, ◌+◌, ◌≤◌, ◌<◌, ◌≡◌, ◌⊎◌, Bool, take}
use Rattle.std.proofs.Math.Path.{refl, sym, ap}
use Rattle.std.proofs.Common.{◌∙◌, length-append}
use mathlib.Core.List.{List, [], ◌∷◌, ◌++◌, append-nil}
use Rattle.std.proofs.Math.Logic.{inl, inr}
use Rattle.std.proofs.Math.Bool.{true, false, cond}
use native.Mathlib.Omega.{arith}
use borrow.Author.Tests.{ltb-true, ltb-false, lt-ltb, le-ltb}
use Rattle.std.proofs.Math.Dec.{ltb}
use Rattle.std.proofs.Math.ListN.{length}
use Rattle.std.proofs.Math.Seq.{take-append_seam}
use Rattle.rules.specs.declared.File.{File}
use Rattle.rules.specs.declared.File.TheVariants.{Dossier, Unit as UnitFile, Sheet}
use Rattle.rules.specs.declared.Fault.{Fault}
use Rattle.rules.specs.declared.Fault.TheVariants.{TooLong, CutShort}
use Rattle.rules.specs.declared.Refusal.{Refusal}
use Rattle.rules.specs.declared.Refusal.TheVariants.{Malformed}
use Rattle.rules.specs.Lists.{◌∈◌}
use Rattle.rules.specs.Sizes.{most_inputs, most_set_word, most_test_word, most_dossier_bytes, most_unit_bytes, most_sheet_bytes, bound_of}
use Rattle.rules.specs.Files.{DossierData, UnitData, SheetRecord, count_bytes, table_bytes, dossier_bytes, unit_bytes, record_bytes, sheet_bytes}
use Rattle.rules.specs.Reading.{Got, got, faulty, Reader, dossier, unit_table, sheet}
use Rattle.rules.specs.Operations.{Outcome, fine, refuse, opened, read_file, read_dossier, read_unit, read_sheet}
use Rattle.theory.specs.Sized.{Bytes, SizedDossier, SizedUnit, SizedSheet}
use Rattle.theory.specs.Spelling.{Spells, bytes_nil, bytes_cons, bytes_append, bytes_flat_map, bytes_count, bytes_left, bytes_right}
use Rattle.theory.specs.Readers.{Nothing, Reads, Seen, SeenIn, Met}
use Rattle.theory.specs.Sections.{OutputsBytes, written_table, written_words, written_record, table_outputs}
use Rattle.theory.specs.Contents.{dossier_laid, reads_dossier, unit_laid, reads_unit, reads_sheet}

-- What the refusals 1 to 6 of a file of at most `most` bytes say, where `answer` is what the reading of its bytes answers.
pub record Refusals {A : Type 0} (f : File) (most : ℕ) (answer : List ℕ → Outcome A) : Type 0 where
  -- 1 is given exactly when the file is over its size, and its place is 0.
  pub too_long : (bytes : List ℕ) → most < length bytes → answer bytes ≡ refuse (Malformed TooLong f 0)
  pub too_long_only : (bytes : List ℕ) (p : ℕ) → answer bytes ≡ refuse (Malformed TooLong f p) → (most < length bytes) × (p ≡ 0)
  -- The place of 2 is the file's length.
  pub cut_short_place : (bytes : List ℕ) (p : ℕ) → answer bytes ≡ refuse (Malformed CutShort f p) → p ≡ length bytes
  -- 3 to 6 are the same whatever follows the byte or the count at their place, which the first q bytes end with.
  pub seen_alike : (bytes : List ℕ) (fault : Fault) (p : ℕ) → Seen fault → answer bytes ≡ refuse (Malformed fault f p)
      → (q : ℕ) × (p < q) × (q ≤ p + 2) × (q ≤ length bytes)
      × ((rest : List ℕ) → length (take q bytes ++ rest) ≤ most → answer (take q bytes ++ rest) ≡ refuse (Malformed fault f p))
  -- The place of 1 to 6 is in the file or at its end.
  pub fault_place : (bytes : List ℕ) (fault : Fault) (p : ℕ) → answer bytes ≡ refuse (Malformed fault f p) → p ≤ length bytes

not_fine : {A : Type 0} {a : A} {r : Refusal} → refuse r ≡ fine a → ⊥
not_fine e = let z : ◌≡◌ {A = ℕ} 0 1 = cc in omega arith

cut_not_long : CutShort ≡ TooLong → ⊥
cut_not_long e = let z : ◌≡◌ {A = ℕ} 0 1 = cc in omega arith

-- What a reader reads up to the end of the bytes, it reads of a file as a whole.
module _ {A : Type 0} (f : File) (most : ℕ) (read : Reader A) {Rule : A → Type 0} {bytes : A → List ℕ}
    (reads : Reads Nothing read Rule bytes) where
  file_read : (a : A) → Rule a → length (bytes a) ≤ most → read_file f most read (bytes a) ≡ fine a
  unfolding read_file
  file_read a rule small =
      let e : read 0 (bytes a) ≡ got a (0 + length (bytes a)) [] = rw append-nil at (reads.takes a rule [] refl 0) in
      rw (le-ltb most (length (bytes a)) small, e)

  file_taken : (l : List ℕ) (a : A) → read_file f most read l ≡ fine a → Rule a × (length (bytes a) ≤ most) × Spells l (bytes a)
  unfolding read_file
  file_taken l a e = go (ltb most (length l)) refl (read 0 l) refl e
    where
      go : (b : Bool) → ltb most (length l) ≡ b → (y : Got A) → read 0 l ≡ y → cond b (refuse (Malformed TooLong f 0)) (opened f y) ≡ fine a
          → Rule a × (length (bytes a) ≤ most) × Spells l (bytes a)
      go true over y is e = absurd (not_fine e)
      go false over (faulty fault x) is e = absurd (not_fine e)
      go false over (got a' q t) is e =
          let same : read 0 l ≡ got a q t = cc in
          let y = reads.taken 0 l a q t same in
          let whole : y.used ≡ l = sym (y.parts ∙ ap (λ u. y.used ++ u) y.after ∙ append-nil y.used) in
          let spells : Spells l (bytes a) = rw whole at y.spells in
          (y.rule, omega (arith, spells.0, ltb-false most (length l) over), spells)

  -- why a file is refused
  file_met : (l : List ℕ) (fault : Fault) (p : ℕ) → read_file f most read l ≡ refuse (Malformed fault f p)
      → ((most < length l) × (fault ≡ TooLong) × (p ≡ 0)) ⊎ Met read 0 l fault p
  unfolding read_file
  file_met l fault p e = go (ltb most (length l)) refl (read 0 l) refl e
    where
      go : (b : Bool) → ltb most (length l) ≡ b → (y : Got A) → read 0 l ≡ y
          → cond b (refuse (Malformed TooLong f 0)) (opened f y) ≡ refuse (Malformed fault f p)
          → ((most < length l) × (fault ≡ TooLong) × (p ≡ 0)) ⊎ Met read 0 l fault p
      go true over y is e = inl (ltb-true most (length l) over, cc, cc)
      go false over (got a q t) is e = absurd (not_fine (sym e))
      go false over (faulty fault' x) is e = let same : read 0 l ≡ faulty fault p = cc in inr (reads.met 0 l fault p same)

  -- the bytes that were looked at are the first ones of the file
  looked_first : (l : List ℕ) (fault : Fault) (p : ℕ) (s : SeenIn read 0 l fault p)
      → (length s.looked ≤ length l) × (take (length s.looked) l ≡ s.looked)
  looked_first l fault p s =
      let long : length l ≡ length s.looked + length s.rest = ap (λ k. length k) s.parts ∙ length-append s.looked s.rest in
      (omega arith, ap (λ k. take (length s.looked) k) s.parts ∙ take-append_seam s.looked s.rest)

  file_refusals : Refusals f most (λ l. read_file f most read l)
  unfolding read_file
  file_refusals =
      record {
        too_long = λ l over. rw (lt-ltb most (length l) over);
        too_long_only = λ l p e. elim (file_met l TooLong p e) [
          | inl (over, is, zero_place) ↦ (over, zero_place)
          | inr (inl (is, end)) ↦ absurd (cut_not_long (sym is))
          | inr (inr s) ↦ absurd s.seen
        ];
        cut_short_place = λ l p e. elim (file_met l CutShort p e) [
          | inl (over, is, zero_place) ↦ absurd (cut_not_long is)
          | inr (inl (is, end)) ↦ omega arith
          | inr (inr s) ↦ absurd s.seen
        ];
        seen_alike = λ l fault p seen e. elim (file_met l fault p e) [
          | inl (over, is, zero_place) ↦ absurd (rw is at seen)
          | inr (inl (is, end)) ↦ absurd (rw is at seen)
          | inr (inr s) ↦
              let (inside, front) = looked_first l fault p s in (
                length s.looked,
                omega (arith, s.before),
                omega (arith, s.near),
                inside,
                λ rest. rw front (λ small. rw (le-ltb most (length (s.looked ++ rest)) small, s.same rest)),
              )
        ];
        fault_place = λ l fault p e. elim (file_met l fault p e) [
          | inl (over, is, zero_place) ↦ omega arith
          | inr (inl (is, end)) ↦ omega arith
          | inr (inr s) ↦ omega (arith, s.before, (looked_first l fault p s).0)
        ];
      }

-- Lists within the sizes are what reading their bytes gives.
pub dossier_read_lem : (d : DossierData) → SizedDossier d → read_dossier (dossier_bytes d) ≡ fine d
dossier_read_lem d sized =
    file_read Dossier most_dossier_bytes dossier reads_dossier d
    (sized.golden, (sized.bound_least, sized.bound_most, sized.bound_near), sized.cover, sized.separating, sized.tests) sized.size

pub unit_read_lem : (u : UnitData) → SizedUnit u → read_unit (unit_bytes u) ≡ fine u
unit_read_lem u sized = file_read UnitFile most_unit_bytes unit_table reads_unit u sized.machine sized.size

pub sheet_read_lem : (k : ℕ) (rs : List SheetRecord) → SizedSheet k rs → read_sheet k (sheet_bytes rs) ≡ fine rs
sheet_read_lem k rs sized =
    file_read Sheet most_sheet_bytes (sheet k) (reads_sheet k) rs (λ r m. (sized.words r m, sized.answers r m)) sized.size

-- Whatever reads well is within the sizes, be its numbers bytes or not.
pub dossier_sized : (bytes : List ℕ) (d : DossierData) → read_dossier bytes ≡ fine d → SizedDossier d
dossier_sized bytes d e =
    let (rule, size, spells) = file_taken Dossier most_dossier_bytes dossier reads_dossier bytes d e in
    let (golden, (least, most, near), cover, separating, tests) = rule in
    record {
      golden = golden;
      bound_least = least;
      bound_most = most;
      bound_near = near;
      cover = cover;
      separating = separating;
      tests = tests;
      size = size;
    }

pub unit_sized : (bytes : List ℕ) (u : UnitData) → read_unit bytes ≡ fine u → SizedUnit u
unit_sized bytes u e =
    let (machine, size, spells) = file_taken UnitFile most_unit_bytes unit_table reads_unit bytes u e in
    record { machine = machine; size = size }

pub sheet_sized : (k : ℕ) (bytes : List ℕ) (rs : List SheetRecord) → read_sheet k bytes ≡ fine rs → SizedSheet k rs
sheet_sized k bytes rs e =
    let (rule, size, spells) = file_taken Sheet most_sheet_bytes (sheet k) (reads_sheet k) bytes rs e in
    record { words = λ r m. (rule r m).0; answers = λ r m. (rule r m).1; size = size }

-- Whatever reads well is the bytes of what was read. It has to be bytes: from the numbers 256 and 0 the count 256 is read, whose bytes
-- are 0 and 1.
pub dossier_whole : (bytes : List ℕ) (d : DossierData) → Bytes bytes → read_dossier bytes ≡ fine d → bytes ≡ dossier_bytes d
dossier_whole bytes d are_bytes e = (file_taken Dossier most_dossier_bytes dossier reads_dossier bytes d e).2.1 are_bytes

pub unit_whole : (bytes : List ℕ) (u : UnitData) → Bytes bytes → read_unit bytes ≡ fine u → bytes ≡ unit_bytes u
unit_whole bytes u are_bytes e = (file_taken UnitFile most_unit_bytes unit_table reads_unit bytes u e).2.1 are_bytes

pub sheet_whole : (k : ℕ) (bytes : List ℕ) (rs : List SheetRecord) → Bytes bytes → read_sheet k bytes ≡ fine rs → bytes ≡ sheet_bytes rs
sheet_whole k bytes rs are_bytes e = (file_taken Sheet most_sheet_bytes (sheet k) (reads_sheet k) bytes rs e).2.1 are_bytes

-- The outputs of a table that was read from bytes are bytes.
pub dossier_outputs : (bytes : List ℕ) (d : DossierData) → Bytes bytes → read_dossier bytes ≡ fine d → OutputsBytes d.table
dossier_outputs bytes d are_bytes e =
    let whole = rw (dossier_whole bytes d are_bytes e ∙ dossier_laid d) at are_bytes in
    let sections = bytes_right (d.inputs ∷ d.states ∷ d.bound_byte ∷ []) _ (bytes_right (count_bytes 3) _ whole) in
    table_outputs d.table (bytes_left (table_bytes d.table) _ sections)

pub unit_outputs : (bytes : List ℕ) (u : UnitData) → Bytes bytes → read_unit bytes ≡ fine u → OutputsBytes u.table
unit_outputs bytes u are_bytes e =
    let whole = rw (unit_whole bytes u are_bytes e ∙ unit_laid u) at are_bytes in
    let sections = bytes_right (u.inputs ∷ u.states ∷ []) _ (bytes_right (count_bytes 2) _ whole) in
    table_outputs u.table (bytes_left (table_bytes u.table) _ sections)

-- the byte for m is at most the bound that it stands for
bound_byte : (n b : ℕ) → b ≤ bound_of n b
bound_byte n zero = omega arith
bound_byte n (suc b) = omega arith

-- What is within the sizes is written as bytes, if its outputs are bytes.
pub dossier_written : (d : DossierData) → SizedDossier d → OutputsBytes d.table → Bytes (dossier_bytes d)
dossier_written d sized outputs =
    let golden = sized.golden in
    let whole = simp (length-append, dossier_laid) at sized.size in
    let section = written_words d.inputs golden.few_inputs in
    rw (dossier_laid d)
    (bytes_append (bytes_count 3 (omega arith))
    (bytes_cons (omega (arith, golden.few_inputs))
    (bytes_cons (omega (arith, golden.few_states))
    (bytes_cons (omega (arith, sized.bound_most, bound_byte d.states d.bound_byte))
    (bytes_append (written_table d.inputs d.states d.table golden outputs)
    (bytes_append (section most_set_word d.cover (omega arith) sized.cover (omega arith))
    (bytes_append (section most_set_word d.separating (omega arith) sized.separating (omega arith))
    (bytes_append (section most_test_word d.tests (omega arith) sized.tests (omega arith)) bytes_nil))))))))

pub unit_written : (u : UnitData) → SizedUnit u → OutputsBytes u.table → Bytes (unit_bytes u)
unit_written u sized outputs =
    let machine = sized.machine in
    rw (unit_laid u)
    (bytes_append (bytes_count 2 (omega arith))
    (bytes_cons (omega (arith, machine.few_inputs))
    (bytes_cons (omega (arith, machine.few_states))
    (bytes_append (written_table u.inputs u.states u.table machine outputs) bytes_nil))))

-- A sheet has to have no more records than a count can say: 65,536 and more, each of the empty word, would still be within the size.
pub sheet_written : (k : ℕ) (rs : List SheetRecord) → k ≤ most_inputs → SizedSheet k rs → length rs < 65536
    → ((r : SheetRecord) → r ∈ rs → Bytes r.recorded) → Bytes (sheet_bytes rs)
unfolding sheet_bytes
sheet_written k rs few_inputs sized few outputs =
    bytes_append (bytes_count (length rs) few)
    (bytes_flat_map record_bytes rs (λ r m. written_record k few_inputs r (sized.words r m, sized.answers r m) (outputs r m)))

-- Where each file goes wrong.
pub dossier_refusals : Refusals Dossier most_dossier_bytes read_dossier
dossier_refusals = file_refusals Dossier most_dossier_bytes dossier reads_dossier

pub unit_refusals : Refusals UnitFile most_unit_bytes read_unit
unit_refusals = file_refusals UnitFile most_unit_bytes unit_table reads_unit

pub sheet_refusals : (k : ℕ) → Refusals Sheet most_sheet_bytes (read_sheet k)
sheet_refusals k = file_refusals Sheet most_sheet_bytes (sheet k) (reads_sheet k)
