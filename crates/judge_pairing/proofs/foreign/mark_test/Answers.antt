use Rattle.trie.specs.Grow.{size_pos}
use Rattle.judge_pairing.proofs.Marks.{node_inside, marking_at, marking_off}
use Rattle.judge_pairing.proofs.foreign.mark_test.Goals as goal

pub mark-requires : goal.mark-requires
mark-requires c = node_inside _ _ _ c.requires.node.holds.proper (c.walk_word.ensures _ c.requires.node.holds c.requires.node.below) _ _ _ c.args.marks.now _ c.requires.node.holds c.requires.marks_len c.in-Some.is

pub returns-in-Some : goal.returns-in-Some
returns-in-Some c = λ t all rest h x. marking_at t _ _ h.proper (c.walk_word.ensures t h (size_pos t)) _ c.in-Some.is all rest _ _ x (λ ws noted less. c.mark.ensures t ws h.proper noted less)

pub returns-in_default : goal.returns-in_default
returns-in_default c = λ t all rest h x. marking_off t _ _ h.proper (c.walk_word.ensures t h (size_pos t)) c.in_default.is all rest _ x
