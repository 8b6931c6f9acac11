-- What the bytes of a file hold at the places of its shape, where the file reads well.
use Rattle.std.specs.Prelude.{ℕ, ◌+◌, ◌*◌, ◌≤◌, ◌≡◌, List, length}
use Rattle.std.proofs.Common.{arith}
use Rattle.rules.specs.Sizes.{most_inputs, most_states, most_dossier_bytes, most_unit_bytes, most_sheet_bytes}
use Rattle.rules.specs.Files.{DossierData, UnitData, SheetRecord}
use Rattle.theory.specs.Sized.{SizedDossier, SizedUnit, SizedSheet}
use Rattle.reader.specs.declared.DossierShape.{DossierShape}
use Rattle.reader.specs.declared.UnitShape.{UnitShape}
use Rattle.reader.specs.declared.SheetShape.{SheetShape}
use Rattle.reader.specs.Places.{entries_at, words_at, records_at, TableAt, WordsAt, RecordsAt}

-- the dossier d in the bytes s, at the places of the shape x
pub record DossierStands (s : List ℕ) (x : DossierShape) (d : DossierData) : Type 0 where
  pub size : length s ≤ most_dossier_bytes
  pub sized : SizedDossier d
  pub inputs : x.inputs ≡ d.inputs
  pub states : x.states ≡ d.states
  pub bound_byte : x.bound_byte ≡ d.bound_byte
  pub table : TableAt s x.table x.inputs x.states
  pub entries : entries_at s x.table (x.states * x.inputs) ≡ d.table
  pub cover : WordsAt s x.cover x.inputs x.covers
  pub cover_words : words_at s x.cover x.covers ≡ d.cover
  pub cover_inside : x.cover + x.covers ≤ length s
  pub separating : WordsAt s x.separating x.inputs x.separators
  pub separating_words : words_at s x.separating x.separators ≡ d.separating
  pub separating_inside : x.separating + x.separators ≤ length s
  pub tests : WordsAt s x.tests x.inputs x.count
  pub tests_words : words_at s x.tests x.count ≡ d.tests
  pub tests_inside : x.tests + x.count ≤ length s

-- the unit u in the bytes s, at the places of the shape x
pub record UnitStands (s : List ℕ) (x : UnitShape) (u : UnitData) : Type 0 where
  pub size : length s ≤ most_unit_bytes
  pub sized : SizedUnit u
  pub inputs : x.inputs ≡ u.inputs
  pub states : x.states ≡ u.states
  pub table : TableAt s x.table x.inputs x.states
  pub entries : entries_at s x.table (x.states * x.inputs) ≡ u.table

-- the unit whose table stands in the bytes s, at the places of the shape x
abbrev pub unit_in : List ℕ → UnitShape → UnitData
unit_in s x = record { inputs = x.inputs; states = x.states; table = entries_at s x.table (x.states * x.inputs) }

-- a unit where it stands
pub record UnitAt (s : List ℕ) (x : UnitShape) : Type 0 where
  pub table : TableAt s x.table x.inputs x.states
  pub few_inputs : x.inputs ≤ most_inputs
  pub few_states : x.states ≤ most_states

-- Where a unit was read, it is that unit.
module _ {s : List ℕ} {x : UnitShape} {u : UnitData} (stands : UnitStands s x u) where
  pub unit_in_lem : unit_in s x ≡ u
  unit_in_lem = λ i. record { inputs = stands.inputs i; states = stands.states i; table = stands.entries i }

  pub unit_at_lem : UnitAt s x
  unit_at_lem =
      record {
        table = stands.table;
        few_inputs = omega (arith, stands.inputs, stands.sized.machine.few_inputs);
        few_states = omega (arith, stands.states, stands.sized.machine.few_states);
      }

-- the records rs over k inputs in the bytes s, at the places of the shape x
pub record SheetStands (s : List ℕ) (k : ℕ) (x : SheetShape) (rs : List SheetRecord) : Type 0 where
  pub size : length s ≤ most_sheet_bytes
  pub sized : SizedSheet k rs
  pub records : RecordsAt s x.records k x.count
  pub records_are : records_at s x.records x.count ≡ rs
  pub inside : x.records + x.count ≤ length s
