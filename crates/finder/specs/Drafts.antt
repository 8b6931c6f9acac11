-- What the finder's functions are lent, each with what has been found so far.
use Rattle.std.specs.Prelude.{ℕ, ◌+◌, ◌≤◌, ◌≡◌, List, [], true, length}
use Rattle.std.proofs.Math.Option.{Option, none}
use Rattle.rules.specs.declared.File.TheVariants.{Unit as UnitFile}
use Rattle.rules.specs.declared.Refusal.TheVariants.{Unreached, NotReduced}
use Rattle.rules.specs.Sizes.{most_states, bound_good}
use Rattle.rules.specs.Files.{UnitData, words_bytes, dossier_bytes}
use Rattle.rules.specs.Answers.{golden_state}
use Rattle.rules.specs.Operations.{Outcome, fine, refuse, ◌>>◌, require_none, read_unit}
use Rattle.rules.specs.Find.{unreachable, untold, found_cover, found_dossier}
use Rattle.theory.specs.Sized.{Bytes}
use Rattle.reader.specs.declared.UnitShape.{UnitShape}
use Rattle.reader.specs.Standing.{UnitStands}
use Rattle.finder_access.specs.Reached.{Reaches}
use Rattle.finder_distances.specs.Rounds.{DistancesAt}
use Rattle.finder_separators.specs.Kept.{SeparatorsAt}

-- 8, then 18: a state that no word leads to, two states that no word tells apart
abbrev pub reduced : Option ℕ → Option (ℕ × ℕ) → Outcome (Unit {0})
reduced q a =
    ◌>>◌ (require_none q (λ q. Unreached UnitFile (golden_state q))) (require_none a (λ (p, q). NotReduced (golden_state p) (golden_state q)))

-- the bytes of the dossier that is found for the unit of the bytes s
abbrev pub draft_of : Outcome UnitData → ℕ → List ℕ
draft_of (fine u) m = dossier_bytes (found_dossier u m)
draft_of (refuse r) m = []

abbrev pub draft_bytes : List ℕ → ℕ → List ℕ
draft_bytes s m = draft_of (read_unit s) m

-- a unit that reads well
pub record Given (s : List ℕ) (x : UnitShape) : Type 0 where
  pub held : UnitData
  pub reads : read_unit s ≡ fine held
  pub stands : UnitStands s x held
  pub are_bytes : Bytes s

-- and a bound that is good for it
pub record Bounded (s : List ℕ) (x : UnitShape) (m : ℕ) : Type 0 where
  pub given : Given s x
  pub good : bound_good given.held.states m ≡ true

-- whose states can all be reached and told apart
pub record Reduced (s : List ℕ) (x : UnitShape) (m : ℕ) (queue places distances : List ℕ) : Type 0 where
  pub bounded : Bounded s x m
  pub reaches : Reaches bounded.given.held queue places
  pub apart : DistancesAt s x distances
  pub reachable : unreachable bounded.given.held ≡ none
  pub tellable : untold bounded.given.held ≡ none

-- and its words
pub record Drafted (s : List ℕ) (x : UnitShape) (m : ℕ) (queue places text kept : List ℕ) (count : ℕ) : Type 0 where
  pub marks : List ℕ
  pub reduced : Reduced s x m queue places marks
  pub separators : SeparatorsAt s x marks text kept count

-- for which there is room
pub record Fitting (s : List ℕ) (x : UnitShape) (m : ℕ) (queue places text kept : List ℕ) (count room : ℕ) : Type 0 where
  pub drafted : Drafted s x m queue places text kept count
  pub fits : length (draft_bytes s m) ≤ room

-- the access words of all states fit into an output from the place p on, behind their count
pub record CoverRoom (queue places : List ℕ) (n p room : ℕ) : Type 0 where
  pub held : UnitData
  pub reaches : Reaches held queue places
  pub states : held.states ≡ n
  pub few : n ≤ most_states
  pub fits : p + length (words_bytes (found_cover held)) ≤ room
