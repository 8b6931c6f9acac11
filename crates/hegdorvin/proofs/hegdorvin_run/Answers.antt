use mathlib.Core.Path.{◌∙◌, ap}
use Rattle.theory.specs.Bounds.{run_fits}
use Rattle.hegdorvin_packing.specs.Packed.{packed}
use Rattle.hegdorvin.proofs.hegdorvin_run.Goals as goal

pub ran-requires : goal.ran-requires
ran-requires c = run_fits _ _ c.run.result c.run.ensures

pub returns : goal.returns
returns c = c.ran.ensures ∙ ap packed c.run.ensures
