use mathlib.Core.Path.{refl}
use Rattle.trie.proofs.Chain.{grown}
use Rattle.trie.proofs.add.Goals as goal

pub returns : goal.returns
returns c = (refl, λ t h k new. rw c.number.ensures (grown t _ _ _ _ _ _ h k c.requires.p_lt_count.0 c.requires.p_lt_count.1 new))
