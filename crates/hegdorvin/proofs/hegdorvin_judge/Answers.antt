use mathlib.Core.Path.{◌∙◌, ap}
use Rattle.theory.specs.Bounds.{judge_fields_fit}
use Rattle.hegdorvin_packing.specs.Packed.{packed}
use Rattle.hegdorvin.proofs.hegdorvin_judge.Goals as goal

pub judged-requires : goal.judged-requires
judged-requires c = judge_fields_fit _ _ c.judge.result c.judge.ensures

pub returns : goal.returns
returns c = c.judged.ensures ∙ ap packed c.judge.ensures
