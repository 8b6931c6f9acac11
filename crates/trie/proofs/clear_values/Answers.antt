use Rattle.trie.specs.Values.{noted_empty}
use Rattle.trie.proofs.Stores.{zeros}
use Rattle.trie.proofs.clear_values.Goals as goal

pub returns : goal.returns
returns c = λ t. noted_empty t _ (λ i. rw (c.fill.ensures.after (λ y e. e)) (zeros _ i))
