-- What reading all lines comes to.
use Rattle.std.specs.Prelude.{ℕ, suc, ◌≡◌, List, [], length, Result, Ok, Err}
use Rattle.rules.specs.declared.Refusal.{Refusal}
use Rattle.rules.specs.declared.Refusal.TheVariants.{BadLine, Contradiction}
use Rattle.rules.specs.Operations.{fine, refuse}
use Rattle.rules.specs.Kiss2.{Says, lines_of, read_lines}
use Rattle.importer_reading.specs.declared.Progress.{Progress}
use Rattle.importer_reading.specs.declared.LineFault.{LineFault}
use Rattle.importer_reading.specs.declared.LineFault.TheVariants.{Bad, Contradicts}
use Rattle.importer_reading.specs.Held.{Held}

-- what a line that is at fault is refused for
abbrev pub refusal_of : LineFault → ℕ → Refusal
refusal_of Bad line = BadLine line
refusal_of Contradicts line = Contradiction line

abbrev pub ReadOf : List ℕ → List ℕ → List ℕ → List ℕ → List ℕ → List ℕ → Result (Progress × ℕ) Refusal → Type 0
ReadOf s names lengths nexts outputs ranks (Err e) = read_lines 1 [] (lines_of s) ≡ refuse e
ReadOf s names lengths nexts outputs ranks (Ok (x, n)) =
    (said : List Says) × (read_lines 1 [] (lines_of s) ≡ fine said) × Held said x names lengths nexts outputs ranks × (n ≡ suc (length (lines_of s)))

pub record ReadAs (s names lengths nexts outputs ranks : List ℕ) (r : Result (Progress × ℕ) Refusal) : Type 0 where
  pub told : ReadOf s names lengths nexts outputs ranks r
