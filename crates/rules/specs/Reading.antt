-- Document 01, "The three files" and the refusals 1 to 6: files are read front to back, each count is judged when both its
-- bytes are there, each other byte as it is read.
use Rattle.std.specs.Prelude.{ℕ, zero, suc, ◌+◌, ◌*◌, List, [], ◌∷◌, Bool, cond, ltb, leb, eqb, length}
use Rattle.rules.specs.declared.Fault.{Fault}
use Rattle.rules.specs.declared.Fault.TheVariants.{CutShort, BadNumbers, BadTable, BadWord, Trailing}
use Rattle.rules.specs.Sizes.{most_inputs, most_states, most_set_word, most_test_word, counts, bound_good}
use Rattle.rules.specs.Words.{Word}
use Rattle.rules.specs.Machines.{Table}
use Rattle.rules.specs.Files.{DossierData, UnitData, SheetRecord}

-- what was read, the place after it and the bytes after it; or the fault and its place
pub data Got (A : Type 0) : Type 0 where
  got : A → ℕ → List ℕ → Got A
  faulty : Fault → ℕ → Got A

-- A reader is given the place of the first byte that is left and the bytes that are left.
abbrev pub Reader : Type 0 → Type 0
Reader A = ℕ → List ℕ → Got A

abbrev pub then : {A B : Type 0} → Got A → (A → Reader B) → Got B
then (got a p l) next = next a p l
then (faulty fault p) next = faulty fault p

abbrev pub ◌>>=◌ : {A B : Type 0} → Reader A → (A → Reader B) → Reader B
◌>>=◌ read next p l = then (read p l) next

abbrev pub ◌>>◌ : {A B : Type 0} → Reader A → Reader B → Reader B
◌>>◌ read next p l = then (read p l) (λ a. next)

abbrev pub done : {A : Type 0} → A → Reader A
done a p l = got a p l

-- One byte. Where none is left the place is the file's length.
unfoldable pub byte : Reader ℕ
byte p [] = faulty CutShort p
byte p (b ∷ l) = got b (suc p) l

-- what is read has to pass the test; the fault's place is that of its first byte
unfoldable pub judged : (ℕ → Bool) → Fault → Reader ℕ → Reader ℕ
judged good fault read p l = then (read p l) (λ x q t. cond (good x) (got x q t) (faulty fault p))

-- two bytes, low byte first
unfoldable pub count : Reader ℕ
count = do
  low ← byte
  high ← byte
  done (low + 256 * high)

-- n readings, one after the other
unfoldable pub many : {A : Type 0} → Reader A → ℕ → Reader (List A)
many read zero = done []
many read (suc n) = do
  a ← read
  more ← many read n
  done (a ∷ more)

-- a word of at most `most` inputs, all below k
unfoldable pub word : ℕ → ℕ → Reader Word
word k most = do
  n ← judged (λ n. leb n most) BadWord byte
  many (judged (λ i. ltb i k) BadWord byte) n

-- a section of words
unfoldable pub words : ℕ → ℕ → Reader (List Word)
words k most = do
  c ← count
  many (word k most) c

unfoldable pub output : Reader ℕ
output = byte

-- a table entry: the next state, which is one of n, and the output
unfoldable pub entry : ℕ → Reader (ℕ × ℕ)
entry n = do
  next ← judged (λ q. ltb q n) BadTable byte
  o ← output
  done (next, o)

-- the table of a machine with k inputs and n states
unfoldable pub table : ℕ → ℕ → Reader Table
table k n = do
  judged (eqb (n * k)) BadTable count
  many (entry n) (n * k)

-- a record of a sheet: a word and as many outputs
unfoldable pub sheet_record : ℕ → Reader SheetRecord
sheet_record k = do
  w ← word k most_test_word
  outputs ← many output (length w)
  done (record { word = w; recorded = outputs })

-- nothing may follow the last section
unfoldable pub ending : {A : Type 0} → A → Reader A
ending a p [] = got a p []
ending a p (b ∷ l) = faulty Trailing p

unfoldable pub dossier : Reader DossierData
dossier = do
  judged (eqb 3) BadNumbers count
  k ← judged (counts most_inputs) BadNumbers byte
  n ← judged (counts most_states) BadNumbers byte
  m ← judged (bound_good n) BadNumbers byte
  t ← table k n
  cover ← words k most_set_word
  separating ← words k most_set_word
  tests ← words k most_test_word
  ending (record {
    inputs = k;
    states = n;
    bound_byte = m;
    table = t;
    cover = cover;
    separating = separating;
    tests = tests;
  })

unfoldable pub unit_table : Reader UnitData
unit_table = do
  judged (eqb 2) BadNumbers count
  k ← judged (counts most_inputs) BadNumbers byte
  u ← judged (counts most_states) BadNumbers byte
  t ← table k u
  ending (record { inputs = k; states = u; table = t })

-- the sheet of a dossier with k inputs
unfoldable pub sheet : ℕ → Reader (List SheetRecord)
sheet k = do
  c ← count
  records ← many (sheet_record k) c
  ending records
