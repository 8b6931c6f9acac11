use Rattle.trie.specs.Values.{marks_of, noted_empty}
use Rattle.trie.proofs.Stores.{zeros}
use Rattle.trie.proofs.clear_marks.Goals as goal

pub returns : goal.returns
unfolding marks_of
returns c = λ t. noted_empty t _ (λ i. rw (c.fill.ensures.after (λ y e. e)) (zeros _ i))
