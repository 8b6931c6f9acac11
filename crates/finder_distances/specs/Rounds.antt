-- What the rounds have done to the table of distances.
use Rattle.std.specs.Prelude.{ℕ, suc, ◌-◌, ◌≤◌, ◌<◌, ◌≡◌, ◌≢◌, List, Bool, false}
use Rattle.rules.specs.Machines.{Machine}
use Rattle.theory.specs.Distances.{Marked}
use Rattle.reader.specs.declared.UnitShape.{UnitShape}
use Rattle.finder_distances.specs.Marks.{place_of, mark_of, MarkTable}
use Rattle.finder_distances.specs.Leads.{machine_of_unit}

-- In the round after r others: the pairs before the place `here` have been looked at, the others have not. Where nothing has changed, no
-- entry is of this round.
pub record Midway (k : ℕ) (M : Machine) (r here : ℕ) (changed : Bool) (m : List ℕ) : Type 0 where
  pub table : MarkTable m
  pub done : (p q : ℕ) → p < q → q < M.states → place_of p q < here → Marked k M (suc r) p q (mark_of m p q)
  pub left : (p q : ℕ) → p < q → q < M.states → here ≤ place_of p q → Marked k M r p q (mark_of m p q)
  pub mirrored : (p q : ℕ) → p < q → q < M.states → mark_of m q p ≡ mark_of m p q
  pub itself : (p : ℕ) → p < M.states → mark_of m p p ≡ 0
  pub quiet : changed ≡ false → (p q : ℕ) → p < q → q < M.states → mark_of m p q ≢ suc r

-- the table holds the distance of each two states of the unit, 0 where no word tells them apart
pub record DistancesAt (s : List ℕ) (x : UnitShape) (m : List ℕ) : Type 0 where
  pub table : MarkTable m
  pub marked : (p q : ℕ) → p < x.states → q < x.states → Marked x.inputs (machine_of_unit s x) (x.states - 1) p q (mark_of m p q)
