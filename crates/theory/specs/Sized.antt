-- Document 01, "Sizes" and "The three files": when the lists of a file are within the sizes, stated on the lists alone.
use Rattle.std.specs.Prelude.{ℕ, suc, ◌+◌, ◌*◌, ◌≤◌, ◌<◌, ◌≡◌, List, [], ◌∷◌, length, get_or}
use Rattle.std.proofs.Common.{inl, inr}
use mathlib.Core.List.Memᴰ
use Rattle.rules.specs.Lists.{◌∈◌}
use Rattle.rules.specs.Sizes.{most_inputs, most_states, most_added_states, most_set_word, most_test_word, most_dossier_bytes, most_unit_bytes, most_sheet_bytes}
use Rattle.rules.specs.Words.{Word, Valid}
use Rattle.rules.specs.Machines.{Table}
use Rattle.rules.specs.Files.{DossierData, UnitData, SheetRecord, bound, dossier_bytes, unit_bytes, sheet_bytes}

-- every number of the list is a byte
abbrev pub Bytes : List ℕ → Type 0
Bytes l = (b : ℕ) → b ∈ l → b < 256

-- numbers that are bytes one by one are bytes
pub bytes_of : (s : List ℕ) → ((i : ℕ) → get_or s i 0 < 256) → Bytes s
bytes_of [] each b m = absurd (Memᴰ.not-nil m)
bytes_of (a ∷ s) each b m = elim (Memᴰ.cases_cons m) [ inl e ↦ rw e (each 0) | inr n ↦ bytes_of s (λ i. each (suc i)) b n ]

-- every word has at most `most` inputs, all below k
abbrev pub SizedWords : ℕ → ℕ → List Word → Type 0
SizedWords k most ws = (w : Word) → w ∈ ws → Valid k w × (length w ≤ most)

-- k inputs and n states, and a table of them: an entry for each state and input, whose next state is a state
pub record SizedTable (k n : ℕ) (t : Table) : Type 0 where
  pub some_input : 0 < k
  pub few_inputs : k ≤ most_inputs
  pub some_state : 0 < n
  pub few_states : n ≤ most_states
  pub entries : length t ≡ n * k
  pub next_states : (e : ℕ × ℕ) → e ∈ t → e.0 < n

pub record SizedDossier (d : DossierData) : Type 0 where
  pub golden : SizedTable d.inputs d.states d.table
  pub bound_least : d.states ≤ bound d
  pub bound_most : bound d ≤ most_states
  pub bound_near : bound d ≤ d.states + most_added_states
  pub cover : SizedWords d.inputs most_set_word d.cover
  pub separating : SizedWords d.inputs most_set_word d.separating
  pub tests : SizedWords d.inputs most_test_word d.tests
  pub size : length (dossier_bytes d) ≤ most_dossier_bytes

pub record SizedUnit (u : UnitData) : Type 0 where
  pub machine : SizedTable u.inputs u.states u.table
  pub size : length (unit_bytes u) ≤ most_unit_bytes

-- a sheet over k inputs: each record has as many outputs as its word has inputs
pub record SizedSheet (k : ℕ) (rs : List SheetRecord) : Type 0 where
  pub words : (r : SheetRecord) → r ∈ rs → Valid k r.word × (length r.word ≤ most_test_word)
  pub answers : (r : SheetRecord) → r ∈ rs → length r.recorded ≡ length r.word
  pub size : length (sheet_bytes rs) ≤ most_sheet_bytes
