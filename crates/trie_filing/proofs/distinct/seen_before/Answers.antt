use Rattle.trie.specs.Grow.{size_pos}
use Rattle.trie_filing.proofs.Firsts.{seen_word, seen_off, seen_below}
use Rattle.trie_filing.proofs.distinct.seen_before.Goals as goal

pub is_marked-seen-requires : goal.is_marked-seen-requires
is_marked-seen-requires c = seen_below _ _ _ c.requires.node.holds.proper (c.walk_word.ensures _ c.requires.node.holds c.requires.node.below) _ _ _ c.args.marks.now _ c.requires.node.holds c.requires.marks_len c.in-Some.is

pub mark-requires : goal.mark-requires
mark-requires c = seen_below _ _ _ c.requires.node.holds.proper (c.walk_word.ensures _ c.requires.node.holds c.requires.node.below) _ _ _ c.args.marks.now _ c.requires.node.holds c.requires.marks_len c.in-Some.is

pub returns : goal.returns
returns c = λ t ws h has noted. seen_word t _ _ h.proper (c.walk_word.ensures t h (size_pos t)) _ c.in-Some.is ws _ _ (c.is_marked-seen.ensures t ws noted) (c.mark.ensures t ws h.proper noted)

pub returns-in_default : goal.returns-in_default
returns-in_default c = λ t ws h has noted. seen_off t _ _ h.proper (c.walk_word.ensures t h (size_pos t)) has c.in_default.is
