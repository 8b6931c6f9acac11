use mathlib.Core.Path.{sym, ◌∙◌}
use Rattle.walker.proofs.Words.{word-length}
use Rattle.walker.proofs.inputs.word_length.Goals as goal

pub returns : goal.returns
returns c = let e = word-length c.args.bytes.now c.args.word c.requires in
    (c.wide.ensures.0 ∙ sym e, c.wide.ensures.0, c.wide.ensures.1)
