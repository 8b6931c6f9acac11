-- What the tables hold of the unit: the entry of a state and an input stands where its name's number and the input say.
use Rattle.std.specs.Prelude.{ℕ, ◌-◌, ◌≤◌, ◌<◌, ◌≡◌, Bool, true, false, eqb, length, get_or, None, Some}
use Rattle.std.specs.Prelude.{Option as Optional}
use mathlib.Core.List.{List, map, flat_map}
use Rattle.std.proofs.Math.Option.{Option, none, some}
use Rattle.rules.specs.Lists.{numbers_from}
use Rattle.rules.specs.Sizes.{most_inputs, most_states}
use Rattle.rules.specs.Machines.{Table}
use Rattle.rules.specs.Files.{entry_bytes}
use Rattle.rules.specs.Answers.{unit_state, input_of}
use Rattle.importer_terms.specs.Entries.{entry_place}
use Rattle.rules.specs.declared.UnitState.{UnitState}
use Rattle.rules.specs.declared.Input.{Input}
use Rattle.importer_unit.specs.Numbered.{NumbersIn}

-- whether the entry of a name's number and an input is empty
abbrev pub is_empty_at : List ℕ → ℕ → ℕ → Bool
is_empty_at nexts j i = eqb (get_or nexts (entry_place j i) 0) 0

-- by the answer r: no entry is empty, or that of the input is the first
abbrev pub LowestOf : List ℕ → ℕ → ℕ → Optional Input → Type 0
LowestOf nexts j inputs None = (i : ℕ) → i < inputs → is_empty_at nexts j i ≡ false
LowestOf nexts j inputs (Some r) = (r.0 < inputs) × ((i : ℕ) → i < r.0 → is_empty_at nexts j i ≡ false) × (is_empty_at nexts j r.0 ≡ true)

-- r is the lowest input whose entry is empty, if there is one
pub record LowestEmpty (nexts : List ℕ) (j inputs : ℕ) (r : Optional Input) : Type 0 where
  pub told : LowestOf nexts j inputs r

abbrev pub silent_found : Option (ℕ × ℕ) → Optional (UnitState × Input)
silent_found none = None
silent_found (some a) = Some (unit_state a.0, input_of a.1)

-- an entry: the rank of the next state's name says the next state's number
abbrev pub entry_held : List ℕ → List ℕ → List ℕ → ℕ → ℕ × ℕ
entry_held nexts outputs ranks place = (get_or ranks (get_or nexts place 0 - 1) 0 - 1, get_or outputs place 0)

-- the entries of a name's number, of n inputs from i on
unfoldable pub row_held : List ℕ → List ℕ → List ℕ → ℕ → ℕ → ℕ → Table
row_held nexts outputs ranks j i n = map (λ m. entry_held nexts outputs ranks (entry_place j m)) (numbers_from i n)

unfoldable pub row_bytes : List ℕ → List ℕ → List ℕ → ℕ → ℕ → ℕ → List ℕ
row_bytes nexts outputs ranks j i n = flat_map entry_bytes (row_held nexts outputs ranks j i n)

-- the entries of n states from q on
unfoldable pub table_held : List ℕ → List ℕ → List ℕ → List ℕ → ℕ → ℕ → ℕ → Table
table_held nexts outputs ranks numbers inputs q n = flat_map (λ p. row_held nexts outputs ranks (get_or numbers p 0) 0 inputs) (numbers_from q n)

unfoldable pub held_bytes : List ℕ → List ℕ → List ℕ → List ℕ → ℕ → ℕ → ℕ → List ℕ
held_bytes nexts outputs ranks numbers inputs q n = flat_map entry_bytes (table_held nexts outputs ranks numbers inputs q n)

-- what the tables have room for
pub record Tables (nexts outputs ranks : List ℕ) : Type 0 where
  pub nexts_room : length nexts ≡ 1024
  pub outputs_room : length outputs ≡ 1024
  pub ranks_room : length ranks ≡ most_states

-- the entry at the place is not empty, and the name of its next state has a rank
pub record EntryThere (nexts ranks : List ℕ) (place : ℕ) : Type 0 where
  pub inside : place < 1024
  pub some_next : 1 ≤ get_or nexts place 0
  pub low_next : get_or nexts place 0 ≤ most_states
  pub some_rank : 1 ≤ get_or ranks (get_or nexts place 0 - 1) 0

pub record RowThere (nexts ranks : List ℕ) (j inputs : ℕ) : Type 0 where
  pub name : j < most_states
  pub few : inputs ≤ most_inputs
  pub there : (i : ℕ) → i < inputs → EntryThere nexts ranks (entry_place j i)

pub record TableThere (nexts ranks numbers : List ℕ) (states inputs : ℕ) : Type 0 where
  pub numbers_in : NumbersIn numbers states
  pub few : inputs ≤ most_inputs
  pub there : (q i : ℕ) → q < states → i < inputs → EntryThere nexts ranks (entry_place (get_or numbers q 0) i)
