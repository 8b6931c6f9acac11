use mathlib.Core.Path.{refl}
use Rattle.trie.proofs.Chain.{started}
use Rattle.trie.proofs.start.Goals as goal

pub returns : goal.returns
returns c = (refl, started c.args.label.now c.args.first.now c.args.next.now c.requires.label_nonzero.0 c.requires.label_nonzero.1 c.requires.first_len.0 c.requires.first_len.1)
