use mathlib.Core.Path.{◌∙◌, ap}
use Rattle.theory.specs.Bounds.{import_fits}
use Rattle.hegdorvin_packing.specs.Packed.{packed}
use Rattle.hegdorvin.proofs.hegdorvin_read_kiss2.Goals as goal

pub imported-requires : goal.imported-requires
imported-requires c = import_fits _ _ c.read_kiss2.result _ c.read_kiss2.ensures

pub returns : goal.returns
returns c = (c.imported.ensures ∙ ap packed c.read_kiss2.ensures.0, c.read_kiss2.ensures.1)
