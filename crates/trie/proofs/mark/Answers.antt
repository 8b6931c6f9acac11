use Rattle.trie.specs.Values.{marked_put}
use Rattle.trie.proofs.mark.Goals as goal

pub returns : goal.returns
returns c = λ t ws p n less. marked_put t ws _ p n _ less c.requires
