use mathlib.Core.Path.{◌∙◌, ap}
use Rattle.theory.specs.Bounds.{find_fits}
use Rattle.hegdorvin_packing.specs.Packed.{packed}
use Rattle.hegdorvin.proofs.hegdorvin_find.Goals as goal

pub found-requires : goal.found-requires
found-requires c = find_fits _ _ _ c.find.result _ c.find.ensures

pub returns : goal.returns
returns c = (c.found.ensures ∙ ap packed c.find.ensures.0, c.find.ensures.1)
