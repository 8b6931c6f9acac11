use mathlib.Core.Path.{◌∙◌}
use mathlib.Core.List.{[], ◌∷◌}
use Rattle.rules.specs.Answers.{well}
use Rattle.theory.specs.Bounds.{judged_part_fits}
use Rattle.hegdorvin_packing.specs.Packed.{packed}
use Rattle.hegdorvin.proofs.hegdorvin_judge_word.Goals as goal

pub part-requires : goal.part-requires
part-requires c = rw (c.failing_part-word.ensures.0, c.failing_part-word.ensures.1) (judged_part_fits _ _)

pub returns : goal.returns
returns c = c.part.ensures ∙ (λ i. packed (well (c.failing_part-word.ensures.0 i ∷ c.failing_part-word.ensures.1 i ∷ [])))
