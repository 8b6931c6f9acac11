-- What the functions of run are lent: a dossier that check accepts with a unit that it can try, and the tests that are still to be tried.
use Rattle.std.specs.Prelude.{ℕ, ◌-◌, ◌≤◌, ◌≡◌, List, Bool, not}
use Rattle.rules.specs.Lists.{first, placed_from}
use Rattle.rules.specs.Words.{Word, same}
use Rattle.rules.specs.Machines.{answer}
use Rattle.rules.specs.Files.{golden, unit}
use Rattle.rules.specs.Operations.{fine, Trial, run, failing_of}
use Rattle.reader.specs.declared.DossierShape.{DossierShape}
use Rattle.reader.specs.declared.UnitShape.{UnitShape}
use Rattle.reader.specs.Places.{words_at, WordsAt}
use Rattle.reader.specs.Standing.{DossierStands, UnitStands}

-- an accepted dossier in the bytes s, at the places of the shape x, with a unit in the bytes t, at the places of the shape y, that it can try
pub record TrialAt (s : List ℕ) (x : DossierShape) (t : List ℕ) (y : UnitShape) : Type 0 where
  pub trial : Trial
  pub runs : run s t ≡ fine trial
  pub stands : DossierStands s x trial.dossier
  pub unit_stands : UnitStands t y trial.unit
  pub same_inputs : x.inputs ≡ y.inputs

-- the test of the rules that finds a failing test
abbrev pub fails : Trial → ℕ × Word → Bool
fails t (i, w) = not (same (answer (golden t.dossier) w) (answer (unit t.unit) w))

-- The tests from number i on, which stand from p on, are still to be tried: the first that fails among them is the first of all.
pub record TestsLeft (s : List ℕ) (x : DossierShape) (t : List ℕ) (y : UnitShape) (i p : ℕ) : Type 0 where
  pub given : TrialAt s x t y
  pub within : i ≤ x.count
  pub words : WordsAt s p x.inputs (x.count - i)
  pub rest : failing_of given.trial ≡ first (fails given.trial) (placed_from i (words_at s p (x.count - i)))
