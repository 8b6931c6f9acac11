use Rattle.importer_terms.proofs.Bits.{weight_is}
use Rattle.importer_terms.proofs.cubes.weight.Goals as goal

pub returns : goal.returns
returns c = weight_is _ c.requires
