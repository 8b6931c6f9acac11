use mathlib.Core.Path.{◌∙◌, ap}
use Rattle.theory.specs.Bounds.{cost_fits}
use Rattle.hegdorvin_packing.specs.Packed.{packed}
use Rattle.hegdorvin.proofs.hegdorvin_cost.Goals as goal

pub costed-requires : goal.costed-requires
costed-requires c = cost_fits _ c.cost.result c.cost.ensures

pub returns : goal.returns
returns c = c.costed.ensures ∙ ap packed c.cost.ensures
