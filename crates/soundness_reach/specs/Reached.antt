-- The states that cover words reach (document 01, refusals 7 and 8): marks, the test that the rules' search makes, and what is answered of it.
use Rattle.std.specs.Prelude.{ℕ, List, Bool, not, eqb, get_or, replicate}
use Rattle.std.proofs.Math.Option.{Option, none, some}
use Rattle.rules.specs.Lists.{any}
use Rattle.rules.specs.Words.{Word}
use Rattle.rules.specs.Machines.{Machine, after}
use Rattle.rules.specs.Answers.{golden_state}
use Rattle.rules.specs.declared.GoldenState.{GoldenState}
use Rattle.std.specs.Prelude.{Option as Found, Some, None}

-- no marks
unfoldable pub unmarked : List ℕ
unmarked = replicate 64 0

-- whether a number is marked
abbrev pub lit : List ℕ → ℕ → Bool
lit marks q = not (eqb (get_or marks q 0) 0)

-- whether a word leads from 0 to the state q
abbrev pub reaches : Machine → ℕ → Word → Bool
reaches M q c = eqb (after M 0 c) q

-- whether no word of the cover does
abbrev pub lacks : Machine → List Word → ℕ → Bool
lacks M cover q = not (any (reaches M q) cover)

-- the state of a number that was found
abbrev pub state_found : Option ℕ → Found GoldenState
state_found none = None
state_found (some q) = Some (golden_state q)
