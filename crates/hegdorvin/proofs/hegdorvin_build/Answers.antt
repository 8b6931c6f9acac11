use mathlib.Core.Path.{◌∙◌, ap}
use Rattle.theory.specs.Bounds.{build_fits}
use Rattle.hegdorvin_packing.specs.Packed.{packed}
use Rattle.hegdorvin.proofs.hegdorvin_build.Goals as goal

pub built-requires : goal.built-requires
built-requires c = build_fits _ _ c.build.result _ c.build.ensures

pub returns : goal.returns
returns c = (c.built.ensures ∙ ap packed c.build.ensures.0, c.build.ensures.1)
