use Rattle.std.proofs.Common.{refl}
use Rattle.reader.specs.Turns.{word_part}
use Rattle.walker.proofs.inputs.word_inputs.Goals as goal

pub returns : goal.returns
returns c = rw c.word_end.ensures.0 (word_part c.args.bytes.now c.args.word _ (refl))
