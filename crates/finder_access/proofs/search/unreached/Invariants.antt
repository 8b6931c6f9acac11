use Prim.Native.Nat.{◌-◌}
use mathlib.Core.Path.{◌≡◌}
use Rattle.rules.specs.Lists.{first, numbers_from}
use Rattle.rules.specs.Files.{UnitData}
use Rattle.rules.specs.Find.{unreachable}
use Rattle.finder_access.specs.Reached.{Marks}
use Rattle.finder_access.proofs.Covering.{lacking}
use Rattle.finder_access.proofs.search.unreached.Given as goal

abbrev pub invariant-loop-q : goal.invariant-loop-q
invariant-loop-q l = ((u : UnitData) → Marks u l.places → u.states ≡ l.states → unreachable u ≡ first (lacking u) (numbers_from l.q (l.states - l.q)))
