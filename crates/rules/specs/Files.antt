-- Document 01, "The three files": what each file holds, and its bytes.
use Rattle.std.specs.Prelude.{ℕ, ◌/◌, ◌%◌, length}
use mathlib.Core.List.{List, [], ◌∷◌, ◌++◌, flat_map}
use Rattle.rules.specs.Sizes.{bound_of}
use Rattle.rules.specs.Words.{Word}
use Rattle.rules.specs.Machines.{Machine, Table, machine_of}

pub record DossierData : Type 0 where
  pub inputs : ℕ
  pub states : ℕ
  pub bound_byte : ℕ
  pub table : Table
  pub cover : List Word
  pub separating : List Word
  pub tests : List Word

pub record UnitData : Type 0 where
  pub inputs : ℕ
  pub states : ℕ
  pub table : Table

pub record SheetRecord : Type 0 where
  pub word : Word
  pub recorded : List ℕ

abbrev pub golden : DossierData → Machine
golden d = machine_of d.inputs d.states d.table

abbrev pub unit : UnitData → Machine
unit u = machine_of u.inputs u.states u.table

abbrev pub bound : DossierData → ℕ
bound d = bound_of d.states d.bound_byte

-- the same dossier with other tests
abbrev pub with_tests : DossierData → List Word → DossierData
with_tests d ts =
    record {
      inputs = d.inputs;
      states = d.states;
      bound_byte = d.bound_byte;
      table = d.table;
      cover = d.cover;
      separating = d.separating;
      tests = ts;
    }

-- a count: two bytes, low byte first
unfoldable pub count_bytes : ℕ → List ℕ
count_bytes c = c % 256 ∷ c / 256 ∷ []

unfoldable pub output_bytes : ℕ → List ℕ
output_bytes o = o ∷ []

unfoldable pub entry_bytes : ℕ × ℕ → List ℕ
entry_bytes e = e.0 ∷ output_bytes e.1

unfoldable pub table_bytes : Table → List ℕ
table_bytes t = count_bytes (length t) ++ flat_map entry_bytes t

-- a word: a length byte and its inputs, a byte each
unfoldable pub word_bytes : Word → List ℕ
word_bytes w = length w ∷ w

unfoldable pub words_bytes : List Word → List ℕ
words_bytes ws = count_bytes (length ws) ++ flat_map word_bytes ws

-- the sections before the tests
unfoldable pub front_bytes : DossierData → List ℕ
front_bytes d =
    count_bytes 3 ++ (d.inputs ∷ d.states ∷ d.bound_byte ∷ []) ++ table_bytes d.table ++ words_bytes d.cover ++ words_bytes d.separating

unfoldable pub dossier_bytes : DossierData → List ℕ
dossier_bytes d = front_bytes d ++ words_bytes d.tests

unfoldable pub unit_bytes : UnitData → List ℕ
unit_bytes u = count_bytes 2 ++ (u.inputs ∷ u.states ∷ []) ++ table_bytes u.table

-- a record: a word, then as many outputs as it has inputs
unfoldable pub record_bytes : SheetRecord → List ℕ
record_bytes r = word_bytes r.word ++ flat_map output_bytes r.recorded

unfoldable pub sheet_bytes : List SheetRecord → List ℕ
sheet_bytes rs = count_bytes (length rs) ++ flat_map record_bytes rs
