use mathlib.Core.Path.{◌∙◌, ap}
use Rattle.theory.proofs.Bounds.{compare_fits}
use Rattle.hegdorvin_packing.specs.Packed.{packed}
use Rattle.hegdorvin.proofs.hegdorvin_compare.Goals as goal

pub compared-requires : goal.compared-requires
compared-requires c = compare_fits _ _ _ c.compare.result _ c.compare.ensures

pub returns : goal.returns
returns c = (c.compared.ensures ∙ ap packed c.compare.ensures.0, c.compare.ensures.1)
