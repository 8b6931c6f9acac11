use Rattle.trie.specs.Values.{noted_put}
use Rattle.trie.proofs.note.Goals as goal

pub returns : goal.returns
returns c = λ t m p n less. noted_put t m _ p n _ _ less c.requires
