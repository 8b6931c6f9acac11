use Rattle.trie_filing.proofs.walks.walk_word.Goals as goal

pub returns : goal.returns
returns c = λ t h less. rw c.word_inputs.ensures at (c.walk.ensures t h less)
