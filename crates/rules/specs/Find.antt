-- Document 02, L1, "Find the cover and the separators for us": a unit file taken as golden, and a bound, give a dossier with no
-- tests. Order: the unit's 1 to 6, 3 for the bound, 8, 18, 17.
use Rattle.std.specs.Prelude.{ℕ, ◌-◌, List, [], ◌∷◌, map, Bool, true, false, cond, eqb, length}
use Rattle.std.proofs.Math.Option.{Option, none, some}
use Rattle.rules.specs.declared.File.TheVariants.{Unit as UnitFile, Number}
use Rattle.rules.specs.declared.Fault.TheVariants.{BadNumbers}
use Rattle.rules.specs.declared.Refusal.TheVariants.{Malformed, Unreached, NotReduced}
use Rattle.rules.specs.declared.Found.{Found}
use Rattle.rules.specs.declared.Found.TheVariants.{Written, Refused}
use Rattle.rules.specs.Lists.{numbers, first}
use Rattle.rules.specs.Sizes.{bound_good}
use Rattle.rules.specs.Words.{Word, shortlex}
use Rattle.rules.specs.Machines.{after}
use Rattle.rules.specs.Files.{DossierData, UnitData, unit, dossier_bytes}
use Rattle.rules.specs.Needed.{pairs, distinct}
use Rattle.rules.specs.Answers.{golden_state}
use Rattle.rules.specs.Operations.{Outcome, ◌>>=◌, ◌>>◌, answered, require, require_none, read_unit, writable, overwritten, telling_from}

-- The shortest access word of a state, the first by inputs among equals: the first word that leads to it from 0. Where any does,
-- one of at most n - 1 inputs does.
unfoldable pub access_word : UnitData → ℕ → Option Word
access_word u q = first (λ w. eqb (after (unit u) 0 w) q) (shortlex u.inputs (u.states - 1))

-- The shortest telling word of a pair of states, chosen likewise. Where any word tells them apart, one of at most n - 1 inputs
-- does.
unfoldable pub telling_word : UnitData → ℕ × ℕ → Option Word
telling_word u (p, q) = telling_from u.inputs (u.states - 1) (unit u) p (unit u) q

-- whether a search came to nothing
abbrev pub nothing : Option Word → Bool
nothing none = true
nothing (some w) = false

-- the word that a search came to; nothing is written where there is none
abbrev pub word_of : Option Word → Word
word_of none = []
word_of (some w) = w

-- the lowest state that no word leads to
unfoldable pub unreachable : UnitData → Option ℕ
unreachable u = first (λ q. nothing (access_word u q)) (numbers u.states)

-- the lowest pair of states that no word tells apart
unfoldable pub untold : UnitData → Option (ℕ × ℕ)
untold u = first (λ a. nothing (telling_word u a)) (pairs u.states)

-- for each state in order its access word
unfoldable pub found_cover : UnitData → List Word
found_cover u = map (λ q. word_of (access_word u q)) (numbers u.states)

-- for each pair of states in order its telling word, each word kept once at its first place; for one state the empty word
unfoldable pub found_separating : UnitData → List Word
found_separating u = cond (eqb u.states 1) ([] ∷ []) (distinct (map (λ a. word_of (telling_word u a)) (pairs u.states)))

-- the dossier with these words and no tests; the bound 0 is written as 0
abbrev pub found_dossier : UnitData → ℕ → DossierData
found_dossier u bound =
    record {
      inputs = u.inputs;
      states = u.states;
      bound_byte = bound;
      table = u.table;
      cover = found_cover u;
      separating = found_separating u;
      tests = [];
    }

-- what find writes
unfoldable pub find : List ℕ → ℕ → List ℕ → Outcome (List ℕ)
find unit_file bound out = do
  u ← read_unit unit_file
  require (bound_good u.states bound) (Malformed BadNumbers Number 0)
  require_none (unreachable u) (λ q. Unreached UnitFile (golden_state q))
  require_none (untold u) (λ (p, q). NotReduced (golden_state p) (golden_state q))
  writable (dossier_bytes (found_dossier u bound)) out

abbrev pub find_answer : List ℕ → ℕ → List ℕ → Found
find_answer unit_file bound out = answered (find unit_file bound out) (λ found. Written (length found)) Refused

abbrev pub find_output : List ℕ → ℕ → List ℕ → List ℕ
find_output unit_file bound out = answered (find unit_file bound out) (λ found. overwritten found out) (λ r. out)
