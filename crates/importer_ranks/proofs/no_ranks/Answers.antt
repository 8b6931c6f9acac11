use mathlib.Core.Path.{refl}
use Rattle.importer_ranks.specs.Ranks.{unranked}
use Rattle.importer_ranks.proofs.no_ranks.Goals as goal

pub returns : goal.returns
unfolding unranked
returns c = refl
