-- What the search for a test that deviates is lent, and what it answers (document 01, "Judge").
use Rattle.std.specs.Prelude.{ℕ, ◌≡◌, List, true}
use Rattle.std.specs.Prelude.{Option as Found, Some, None}
use Rattle.std.proofs.Math.Option.{Option, none, some}
use Rattle.rules.specs.Lists.{◌∈◌}
use Rattle.rules.specs.Words.{Word, is_in}
use Rattle.rules.specs.Machines.{Machine, answer}
use Rattle.rules.specs.Files.{SheetRecord}
use Rattle.rules.specs.Operations.{first_difference, recorded_for}
use Rattle.reader.specs.Places.{word_place}
use Rattle.judge_records.specs.Filed.{Filed, words_of}

-- some records are filed, and one of them has the word
pub record Answered (s : List ℕ) (k : ℕ) (w : Word) (label first next value : List ℕ) : Type 0 where
  pub records : List SheetRecord
  pub filed : Filed s k records label first next value
  pub there : is_in w (words_of records) ≡ true

-- some records are filed, and for each test there is one
pub record Served (s : List ℕ) (k : ℕ) (tests : List Word) (label first next value : List ℕ) : Type 0 where
  pub records : List SheetRecord
  pub filed : Filed s k records label first next value
  pub there : (t : Word) → t ∈ tests → is_in t (words_of records) ≡ true

-- the test that deviates, its first differing step, and its place among the words from p on
abbrev pub deviation_of : List ℕ → ℕ → Machine → List SheetRecord → Option (ℕ × Word) → Found (ℕ × ℕ × ℕ)
deviation_of s p G rs none = None
deviation_of s p G rs (some (i, t)) = Some (i, first_difference (answer G t) (recorded_for rs t), word_place s p i)
