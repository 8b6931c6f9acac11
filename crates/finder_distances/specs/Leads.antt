-- The inputs by which a word that tells two states apart can go on.
use Rattle.std.specs.Prelude.{Option as Found, Some, None, ◌≡◌, ◌<◌, ℕ, zero, suc, List, Bool, not, eqb}
use Rattle.std.proofs.Math.Option.{Option, none, some}
use Rattle.rules.specs.Machines.{Machine}
use Rattle.reader.specs.declared.UnitShape.{UnitShape}
use Rattle.reader.specs.Places.{machine_at}
use Rattle.rules.specs.declared.Input.{Input}
use Rattle.finder_distances.specs.Marks.{mark_of}

abbrev pub machine_of_unit : List ℕ → UnitShape → Machine
machine_of_unit s x = machine_at s x.table x.inputs x.states

-- two states give different outputs to an input
unfoldable pub differs : Machine → ℕ → ℕ → ℕ → Bool
differs M p q i = not (eqb (M.output p i) (M.output q i))

-- an input leads from two states to two that have the entry d
unfoldable pub nears : Machine → List ℕ → ℕ → ℕ → ℕ → ℕ → Bool
nears M m d p q i = eqb (mark_of m (M.next p i) (M.next q i)) d

-- an input behind which `left` inputs more tell two states apart
abbrev pub leads : Machine → List ℕ → ℕ → ℕ → ℕ → ℕ → Bool
leads M m zero p q i = differs M p q i
leads M m (suc d) p q i = nears M m (suc d) p q i

-- the input of a number that was found
abbrev pub lead_of : Option ℕ → Found Input
lead_of none = None
lead_of (some i) = Some (record { 0 = i })

-- what a test may answer of an input is what a rule says of its number
abbrev pub Tests : (Input → Bool → Type 0) → ℕ → (ℕ → Bool) → Type 0
Tests answers k rule = (input : Input) (answer : Bool) → input.0 < k → answers input answer → answer ≡ rule input.0
