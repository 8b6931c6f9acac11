use Rattle.middles.specs.Places.{none_word}
use Rattle.middles.proofs.no_inputs.Goals as goal

-- `no_inputs`. Its five inputs are 0.
pub returns : goal.returns
returns c = none_word _ c.numbered-none.ensures
