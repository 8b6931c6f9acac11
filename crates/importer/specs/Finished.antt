-- What is left of the import once all lines are read.
use Rattle.std.specs.Prelude.{ℕ, ◌≤◌, ◌≡◌, List, length}
use Rattle.rules.specs.declared.Refusal.TheVariants.{BadLine, Incomplete}
use Rattle.rules.specs.declared.Imported.{Imported}
use Rattle.rules.specs.declared.Imported.TheVariants.{Written, Refused}
use Rattle.rules.specs.Lists.{◌∈◌}
use Rattle.rules.specs.Sizes.{most_inputs}
use Rattle.rules.specs.Files.{unit_bytes}
use Rattle.rules.specs.Answers.{unit_state, input_of}
use Rattle.rules.specs.Operations.{Outcome, fine, ◌>>◌, answered, require, require_none, fits, overwritten}
use Rattle.rules.specs.Kiss2.{Says, Term, terms_in, names_in, is_whole, state_names, inputs_in, silent, unit_said}
use Rattle.importer_terms.specs.Entries.{EntriesAt}
use Rattle.importer_ranks.specs.Ranks.{RanksAt}
use Rattle.importer_reading.specs.declared.Progress.{Progress}
use Rattle.importer_reading.specs.Held.{Held}

-- what is left of `read_kiss2` where nothing is lacking
abbrev pub completed : List Says → List ℕ → Outcome (List ℕ)
completed said out = do
  require_none (silent said) (λ (q, i). Incomplete (unit_state q) (input_of i))
  fits (unit_bytes (unit_said said)) out
  fine (unit_bytes (unit_said said))

-- what is left of it once the lines have said `said`; `behind` is the number of the line behind the last
abbrev pub finished : List Says → ℕ → List ℕ → Outcome (List ℕ)
finished said behind out = do
  require (is_whole said) (BadLine behind)
  completed said out

-- An outcome is answered: a unit is written at the front of the output, and with a refusal the output stays.
pub record AnsweredAs (o : Outcome (List ℕ)) (out left : List ℕ) (r : Imported) : Type 0 where
  pub answer : r ≡ answered o (λ unit. Written (length unit)) Refused
  pub output : left ≡ answered o (λ unit. overwritten unit out) (λ r. out)

-- the tables hold the entries of what the lines said, and a number for each state
pub record Ranked (said : List Says) (nexts outputs ranks : List ℕ) (states inputs : ℕ) : Type 0 where
  pub entered : EntriesAt nexts outputs (names_in said) (terms_in said)
  pub nexts_named : (t : Term) → t ∈ terms_in said → t.next ∈ names_in said
  pub ranked : RanksAt ranks (names_in said) (state_names said)
  pub many : states ≡ length (names_in said)
  pub inputs_are : inputs ≡ inputs_in said
  pub few_inputs : inputs ≤ most_inputs

-- some lines were read, and these are the tables of them
pub record SomeRanked (nexts outputs ranks : List ℕ) (states inputs : ℕ) : Type 0 where
  pub said : List Says
  pub ranked : Ranked said nexts outputs ranks states inputs

pub record SomeRead (x : Progress) (nexts outputs ranks : List ℕ) : Type 0 where
  pub said : List Says
  pub names : List ℕ
  pub lengths : List ℕ
  pub held : Held said x names lengths nexts outputs ranks
