-- What the program holds of the lines that were read, in the words of the rules.
use Rattle.std.specs.Prelude.{ℕ, ◌<◌, ◌≡◌, List, [], ◌∷◌, ◌++◌, true, false, length, unwrap_or, Result, Ok, Err, ⊤}
use Rattle.rules.specs.Kiss2.{Says, terms_in, names_in, may_follow, contradicts}
use Rattle.importer_counts.specs.Counts.{CountsAt}
use Rattle.importer_names.specs.Names.{NamesAt}
use Rattle.importer_terms.specs.Entries.{EntriesAt, TermsOver}
use Rattle.importer_ranks.specs.Ranks.{RanksAt, order_of}
use Rattle.importer_reading.specs.declared.Progress.{Progress}
use Rattle.importer_reading.specs.declared.LineFault.{LineFault}
use Rattle.importer_reading.specs.declared.LineFault.TheVariants.{Bad, Contradicts}

-- the lines said `before`: the progress x and the five tables are those of them
pub record Held (before : List Says) (x : Progress) (names lengths nexts outputs ranks : List ℕ) : Type 0 where
  pub counted : CountsAt before x.counts
  pub named : NamesAt names lengths (names_in before)
  pub many : x.names ≡ length (names_in before)
  pub entered : EntriesAt nexts outputs (names_in before) (terms_in before)
  pub over : TermsOver (names_in before) (unwrap_or x.counts.output_bits 0) (terms_in before)
  pub ranked : RanksAt ranks (names_in before) (order_of before)
  pub so_many : x.ranked ≡ length (order_of before)

-- what a line that says s came to
abbrev pub StepOf : List Says → Says → List ℕ → List ℕ → List ℕ → List ℕ → List ℕ → Result Progress LineFault → Type 0
StepOf before s names lengths nexts outputs ranks (Err Bad) = may_follow before s ≡ false
StepOf before s names lengths nexts outputs ranks (Err Contradicts) = (may_follow before s ≡ true) × (contradicts before s ≡ true)
StepOf before s names lengths nexts outputs ranks (Ok y) =
    (may_follow before s ≡ true) × (contradicts before s ≡ false) × Held (before ++ (s ∷ [])) y names lengths nexts outputs ranks

pub record Stepped (before : List Says) (s : Says) (names lengths nexts outputs ranks : List ℕ) (r : Result Progress LineFault) : Type 0 where
  pub told : StepOf before s names lengths nexts outputs ranks r

-- a step of a progress that was changed in place
abbrev pub stepped : Result ⊤ LineFault → Progress → Result Progress LineFault
stepped (Ok done) x = Ok x
stepped (Err f) x = Err f

-- some lines were read, and these are what was counted of them and their names; a text has no more terms than bytes
pub record SomeSaid (x : Progress) (names lengths : List ℕ) : Type 0 where
  pub before : List Says
  pub counted : CountsAt before x.counts
  pub named : NamesAt names lengths (names_in before)
  pub many : x.names ≡ length (names_in before)
  pub few : x.counts.terms < 65536

pub record SomeHeld (x : Progress) (names lengths nexts outputs ranks : List ℕ) : Type 0 where
  pub before : List Says
  pub held : Held before x names lengths nexts outputs ranks
  pub few : x.counts.terms < 65536
