-- What the readers of the parts of the files read: words, tables and sheet records that are within the sizes, from their bytes.
use Rattle.std.specs.Prelude.{ℕ, ◌*◌, ◌≤◌, ◌<◌, ◌≡◌, refl, Bool, true, eqb, length}
use Rattle.std.proofs.Common.{ap, ⊎_elim, mul-le-mul, arith}
use mathlib.Core.List.Memᴰ
use mathlib.Core.List.{List, [], ◌∷◌, flat_map, append-nil}
use borrow.Author.Tests.{ltb-true, leb-true, eqb-true, lt-ltb, le-leb, eq-eqb}
use Rattle.std.proofs.Math.Dec.{ltb, leb}
use Rattle.std.proofs.Math.ListN.{length-append}
use Rattle.rules.specs.declared.Fault.{Fault}
use Rattle.rules.specs.declared.Fault.TheVariants.{BadTable, BadWord}
use Rattle.rules.specs.Lists.{◌∈◌}
use Rattle.rules.specs.Sizes.{most_inputs, most_test_word}
use Rattle.rules.specs.Words.{Word, Valid}
use Rattle.rules.specs.Machines.{Table}
use Rattle.rules.specs.Files.{SheetRecord, count_bytes, output_bytes, entry_bytes, table_bytes, word_bytes, words_bytes, record_bytes}
use Rattle.rules.specs.Reading.{byte, judged, count, word, words, output, entry, table, sheet_record}
use Rattle.theory.specs.Sized.{Bytes, SizedWords, SizedTable}
use Rattle.theory.specs.Spelling.{bytes_nil, bytes_cons, bytes_append, bytes_flat_map, bytes_count, bytes_right, flat_map_bytes, length_flat_map}
use Rattle.theory.specs.Readers.{Anything, Reads, Seen, reads_byte, reads_count, reads_done, reads_judged, reads_steps, reads_then, reads_many}

-- a word is valid exactly when each of its inputs is below k
pub valid_in : (k : ℕ) (w : Word) → Valid k w → (i : ℕ) → i ∈ w → i < k
valid_in k [] valid i m = elim m [ ]
valid_in k (j ∷ w) (h, valid) i m = ⊎_elim (λ is. rw is h) (valid_in k w valid i) (Memᴰ.cases_cons m)

pub in_valid : (k : ℕ) (w : Word) → ((i : ℕ) → i ∈ w → i < k) → Valid k w
in_valid k [] each = tt
in_valid k (j ∷ w) each = (each j (Memᴰ.head refl), in_valid k w (λ i m. each i (Memᴰ.tail m)))

-- the bytes of inputs are the inputs
flat_map_inputs : (w : Word) → flat_map (λ i. i ∷ []) w ≡ w
unfolding flat_map
flat_map_inputs [] = refl
flat_map_inputs (i ∷ w) = ap (λ v. i ∷ v) (flat_map_inputs w)

module _ (good : ℕ → Bool) (fault : Fault) (seen : Seen fault) where
  pub reads_judged-byte : Reads Anything (judged good fault byte) (λ b. good b ≡ true) (λ b. b ∷ [])
  reads_judged-byte = reads_judged good fault reads_byte seen (λ b. omega arith)

  pub reads_judged-count : Reads Anything (judged good fault count) (λ c. good c ≡ true) (λ c. count_bytes c)
  unfolding count_bytes
  reads_judged-count = reads_judged good fault reads_count seen (λ c. omega arith)

module _ (k most : ℕ) where
  pub reads_word : Reads Anything (word k most) (λ w. Valid k w × (length w ≤ most)) (λ w. word_bytes w)
  unfolding word word_bytes
  reads_word =
      reads_steps (reads_judged-byte (λ n. leb n most) BadWord tt)
      (λ n. reads_many (reads_judged-byte (λ i. ltb i k) BadWord tt) n)
      (λ w. Valid k w × (length w ≤ most)) (λ w. word_bytes w)
      (λ w (valid, short). (length w, le-leb _ _ short, (refl, λ i m. lt-ltb i k (valid_in k w valid i m)), rw flat_map_inputs))
      (λ n w is (long, each). ((in_valid k w (λ i m. ltb-true i k (each i m)), rw long (leb-true n most is)), rw (long, flat_map_inputs)))

  pub reads_words : Reads Anything (words k most) (SizedWords k most) (λ ws. words_bytes ws)
  unfolding words words_bytes
  reads_words =
      reads_steps reads_count (λ c. reads_many reads_word c) (SizedWords k most) (λ ws. words_bytes ws)
      (λ ws sized. (length ws, tt, (refl, sized), refl)) (λ c ws any (long, sized). (sized, rw long))

reads_output : Reads Anything output (λ o. Unit {0}) (λ o. output_bytes o)
unfolding output output_bytes
reads_output = reads_byte

pub reads_entry : (n : ℕ) → Reads Anything (entry n) (λ e. e.0 < n) (λ e. entry_bytes e)
unfolding entry entry_bytes output_bytes
reads_entry n =
    reads_steps (reads_judged-byte (λ q. ltb q n) BadTable tt)
    (λ q. reads_then reads_output (λ e. e.1) (λ o e any is. cc) (λ o. reads_done (q, o)))
    (λ e. e.0 < n) (λ e. entry_bytes e)
    (λ e small. (e.0, lt-ltb _ _ small, (tt, refl), refl))
    (λ q e is (any, both). let next_is : e.0 ≡ q = ap (λ f. f.0) both in rw next_is (ltb-true q n is, refl))

-- an entry takes two bytes
pub table_long : (t : Table) → length (flat_map entry_bytes t) ≡ 2 * length t
unfolding flat_map entry_bytes output_bytes
table_long [] = refl
table_long (e ∷ t) = let rest = table_long t in rw length-append (omega arith)

-- a table of n states and k inputs: an entry for each state and input, whose next state is a state
abbrev pub Entries : ℕ → ℕ → Table → Type 0
Entries k n t = (length t ≡ n * k) × ((e : ℕ × ℕ) → e ∈ t → e.0 < n)

pub reads_table : (k n : ℕ) → Reads Anything (table k n) (Entries k n) (λ t. table_bytes t)
unfolding table table_bytes
reads_table k n =
    reads_steps (reads_judged-count (eqb (n * k)) BadTable tt)
    (λ c. reads_many (reads_entry n) (n * k)) (Entries k n) (λ t. table_bytes t)
    (λ t (long, each). (n * k, eq-eqb (n * k) (n * k) refl, (long, each), rw long))
    (λ c t is (long, each). ((long, each), rw (long, eqb-true (n * k) c is)))

-- a record over k inputs: a word of a test's size and as many outputs
abbrev pub Recorded : ℕ → SheetRecord → Type 0
Recorded k r = (Valid k r.word × (length r.word ≤ most_test_word)) × (length r.recorded ≡ length r.word)

pub reads_record : (k : ℕ) → Reads Anything (sheet_record k) (Recorded k) (λ r. record_bytes r)
unfolding sheet_record record_bytes
reads_record k =
    reads_steps (reads_word k most_test_word)
    (λ w. reads_then (reads_many reads_output (length w)) (λ r. r.recorded) (λ outputs r any is. cc) (λ outputs. reads_done _))
    (Recorded k) (λ r. record_bytes r)
    (λ r (sized, long). (r.word, sized, ((long, λ o m. tt), refl), rw append-nil))
    (λ w r sized ((long, any), is). let word_is : r.word ≡ w = ap (λ s. s.word) is in rw (word_is, append-nil) ((sized, long), refl))

-- What is within the sizes is written as bytes.
module _ (k : ℕ) (few_inputs : k ≤ most_inputs) where
  written_word : (w : Word) → Valid k w → length w ≤ most_test_word → Bytes (word_bytes w)
  unfolding word_bytes
  written_word w valid short = bytes_cons (omega arith) (λ i m. omega (arith, valid_in k w valid i m))

  -- Each word takes a byte at least, so a section that is not too long has not too many.
  pub written_words : (most : ℕ) (ws : List Word) → most ≤ most_test_word → SizedWords k most ws → length (words_bytes ws) < 65536
      → Bytes (words_bytes ws)
  unfolding words_bytes word_bytes
  written_words most ws at_most sized small =
      let long = rw length-append at small in
      bytes_append (bytes_count (length ws) (omega (arith, length_flat_map word_bytes (λ w. omega arith) ws)))
      (bytes_flat_map word_bytes ws (λ w m. let (valid, short) = sized w m in written_word w valid (omega arith)))

  pub written_record : (r : SheetRecord) → Recorded k r → Bytes r.recorded → Bytes (record_bytes r)
  unfolding record_bytes output_bytes
  written_record r ((valid, short), long) outputs =
      bytes_append (written_word r.word valid short)
      (bytes_flat_map output_bytes r.recorded (λ o m. bytes_cons (outputs o m) bytes_nil))

-- every output of the table is a byte
abbrev pub OutputsBytes : Table → Type 0
OutputsBytes t = (e : ℕ × ℕ) → e ∈ t → e.1 < 256

pub written_table : (k n : ℕ) (t : Table) → SizedTable k n t → OutputsBytes t → Bytes (table_bytes t)
unfolding table_bytes entry_bytes output_bytes
written_table k n t sized outputs =
    bytes_append (bytes_count (length t) (omega (arith, sized.entries, mul-le-mul sized.few_states sized.few_inputs)))
    (bytes_flat_map entry_bytes t
    (λ e m. bytes_cons (omega (arith, sized.few_states, sized.next_states e m)) (bytes_cons (outputs e m) bytes_nil)))

-- and a table that is written as bytes has such outputs
pub table_outputs : (t : Table) → Bytes (table_bytes t) → OutputsBytes t
unfolding table_bytes entry_bytes output_bytes
table_outputs t bytes e m =
    let entries = bytes_right (count_bytes (length t)) (flat_map entry_bytes t) bytes in
    flat_map_bytes entry_bytes t entries e m e.1 (Memᴰ.tail (Memᴰ.head refl))
