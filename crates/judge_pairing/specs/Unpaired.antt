-- The refusals 13 and 14, behind 12.
use Rattle.std.specs.Prelude.{ℕ, List, Option, Some, None, Result, Ok, Err}
use Rattle.rules.specs.Words.{Word}
use Rattle.rules.specs.Files.{SheetRecord}
use Rattle.rules.specs.declared.Refusal.{Refusal}
use Rattle.rules.specs.declared.Refusal.TheVariants.{Foreign, Absent}
use Rattle.rules.specs.Operations.{Outcome, ◌>>◌, require_none, foreign, absent}

-- 13 and 14
abbrev pub unpaired : List Word → List SheetRecord → Outcome (Unit {0})
unpaired tests rs =
    ◌>>◌ (require_none (foreign tests rs) (λ (i, r). Foreign i)) (require_none (absent tests rs) (λ (i, t). Absent i))

-- what is said of the records and tests that were found
abbrev pub first_refusal : Option ℕ → Option ℕ → Result (Unit {0}) Refusal
first_refusal (Some i) a = Err (Foreign i)
first_refusal None (Some i) = Err (Absent i)
first_refusal None None = Ok tt
