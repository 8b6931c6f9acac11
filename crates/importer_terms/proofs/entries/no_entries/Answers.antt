use mathlib.Core.Path.{refl}
use Rattle.importer_terms.specs.Entries.{unsaid}
use Rattle.importer_terms.proofs.entries.no_entries.Goals as goal

pub returns : goal.returns
unfolding unsaid
returns c = refl
