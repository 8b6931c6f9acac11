use Rattle.trie.proofs.noted.Goals as goal

pub returns : goal.returns
returns c = λ t m n less. n.values _ less
