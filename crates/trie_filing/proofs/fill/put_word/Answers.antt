use Rattle.trie_filing.proofs.fill.put_word.Goals as goal

pub returns : goal.returns
returns c = λ t h e. rw c.word_inputs.ensures at (c.insert_at.ensures t h e)
