-- The telling word that is read off the table of distances.
use Rattle.std.specs.Prelude.{ℕ, zero, suc, List, [], ◌∷◌}
use Rattle.std.proofs.Math.Option.{Option, none, some}
use Rattle.rules.specs.Lists.{first, numbers}
use Rattle.rules.specs.Words.{Word}
use Rattle.rules.specs.Machines.{Machine}
use Rattle.reader.specs.declared.UnitShape.{UnitShape}
use Rattle.finder_distances.specs.Marks.{mark_of}
use Rattle.finder_distances.specs.Leads.{machine_of_unit, leads}

-- an input that was found; 0 stands where there is none
abbrev pub input_of : Option ℕ → ℕ
input_of none = 0
input_of (some i) = i

-- the input that the telling word of two states begins with, where `left` inputs follow it
unfoldable pub next_input : ℕ → Machine → List ℕ → ℕ → ℕ → ℕ → ℕ
next_input k M m left p q = input_of (first (leads M m left p q) (numbers k))

-- the telling word of so many inputs
unfoldable pub read_off : ℕ → Machine → List ℕ → ℕ → ℕ → ℕ → Word
read_off k M m zero p q = []
read_off k M m (suc left) p q =
    next_input k M m left p q ∷ read_off k M m left (M.next p (next_input k M m left p q)) (M.next q (next_input k M m left p q))

-- the telling word of two states of a unit: as many inputs as they are apart
abbrev pub telling_off : List ℕ → UnitShape → List ℕ → ℕ → ℕ → Word
telling_off s x m p q = read_off x.inputs (machine_of_unit s x) m (mark_of m p q) p q
