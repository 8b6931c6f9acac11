use Rattle.importer_terms.proofs.Bits.{weight_some, bit_is}
use Rattle.importer_terms.proofs.cubes.bit_of.Goals as goal

pub nonzero_div-result : goal.nonzero_div-result
nonzero_div-result c = weight_some _ _ c.weight.ensures

pub returns : goal.returns
returns c = bit_is _ _ _ c.weight.ensures
