use mathlib.Core.Path.{◌∙◌}
use Rattle.walker.proofs.Words.{input_below}
use Rattle.walker.proofs.inputs.input_at.Goals as goal

pub returns : goal.returns
returns c = let e = c.numbered.ensures ∙ c.input_byte.ensures in
    (e, input_below _ _ _ c.requires.word_at _ _ c.requires.step_in_bounds e)
