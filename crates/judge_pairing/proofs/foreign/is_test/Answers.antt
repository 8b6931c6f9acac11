use Rattle.trie.specs.Grow.{size_pos}
use Rattle.judge_pairing.proofs.Marks.{node_inside, known_at, known_off}
use Rattle.judge_pairing.proofs.foreign.is_test.Goals as goal

pub is_marked-requires : goal.is_marked-requires
is_marked-requires c = node_inside _ _ _ c.requires.node.holds.proper (c.walk_word.ensures _ c.requires.node.holds c.requires.node.below) _ _ _ c.args.marks.now _ c.requires.node.holds c.requires.marks_len c.in-Some.is

pub returns-in-Some : goal.returns-in-Some
returns-in-Some c = λ tests words x there. known_at tests words _ _ _ _ x _ there _ (c.walk_word.ensures x.trie x.holds (size_pos x.trie)) _ c.in-Some.is _ (λ ws noted less. c.is_marked.ensures x.trie ws noted less)

pub returns-in-None : goal.returns-in-None
returns-in-None c = λ tests words x there. known_off tests words _ _ _ _ x _ there _ (c.walk_word.ensures x.trie x.holds (size_pos x.trie)) c.in-None.is
