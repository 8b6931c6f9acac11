use Rattle.trie.specs.Values.{marked_told}
use Rattle.trie.proofs.is_marked.Goals as goal

pub returns : goal.returns
returns c = λ t ws n less. marked_told t ws _ n _ less
