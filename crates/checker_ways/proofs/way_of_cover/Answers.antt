use native.Mathlib.Omega.{arith}
use mathlib.Core.Path.{sym, ◌∙◌}
use Rattle.checker_ways.proofs.Ways.{root_known}
use Rattle.trie.specs.Words.{root_walk}
use Rattle.trie.specs.Grow.{size_pos}
use Rattle.checker_ways.proofs.way_of_cover.Goals as goal

pub is_marked-requires : goal.is_marked-requires
is_marked-requires c = let (less, word) = root_walk c.requires.node.holds.proper _ _ _ (c.walk_word.ensures c.requires.node.trie c.requires.node.holds c.requires.node.below) c.in-Some.is in
    omega (arith, c.requires.done_len, c.requires.node.holds.room)

pub returns-then-is_marked : goal.returns-then-is_marked
returns-then-is_marked c = λ t h. root_known h.proper _ _ _ (c.walk_word.ensures t h (size_pos t)) c.in-Some.is _ _ c.is_marked.ensures c.if-is_marked.true

pub returns : goal.returns
returns c = λ t h. root_walk h.proper _ _ _ (c.walk_word.ensures t h (size_pos t)) c.in-Some.is

pub returns-in_default : goal.returns-in_default
returns-in_default c = λ t h. sym (c.walk_word.ensures t h (size_pos t)) ∙ c.in_default.is
