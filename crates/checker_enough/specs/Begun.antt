-- What the search for a missing word begins with (document 01, refusal 11): a dossier with something to look for, and the number of
-- its middles.
use Rattle.std.specs.Prelude.{ℕ, ◌≤◌, ◌<◌, ◌≡◌, List, length}
use Rattle.reader.specs.declared.DossierShape.{DossierShape}
use Rattle.soundness.specs.Lent.{Lent}
use Rattle.checker_search.specs.Blocks.{middles_at}

pub record Begun (s : List ℕ) (x : DossierShape) (total : ℕ) : Type 0 where
  pub lent : Lent s x
  pub some_test : 0 < x.count
  pub some_separator : 0 < x.separators
  pub all_middles : total ≡ length (middles_at x)
  pub few_middles : total ≤ 1118481
