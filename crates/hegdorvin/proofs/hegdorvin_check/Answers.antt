use mathlib.Core.Path.{◌∙◌, ap}
use Rattle.theory.specs.Bounds.{check_fits}
use Rattle.hegdorvin_packing.specs.Packed.{packed}
use Rattle.hegdorvin.proofs.hegdorvin_check.Goals as goal

pub checked-requires : goal.checked-requires
checked-requires c = check_fits _ c.check.result c.check.ensures

pub returns : goal.returns
returns c = c.checked.ensures ∙ ap packed c.check.ensures
