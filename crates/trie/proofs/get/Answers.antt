use native.Mathlib.Omega.{arith}
use Rattle.trie.specs.Grow.{size_pos}
use Rattle.trie.specs.Values.{found, missed, reached}
use Rattle.trie.proofs.get.Goals as goal

pub offset_bounds-value-i : goal.offset_bounds-value-i
offset_bounds-value-i c = omega (arith, reached c.requires.node.trie _ c.requires.node.holds.proper _ _ (c.walk.ensures c.requires.node.trie c.requires.node.holds (size_pos c.requires.node.trie)) c.in-Some.is, c.requires.node.holds.room, c.requires.node.holds.small)

pub bounds-value-i : goal.bounds-value-i
bounds-value-i c = omega (arith, reached c.requires.node.trie _ c.requires.node.holds.proper _ _ (c.walk.ensures c.requires.node.trie c.requires.node.holds (size_pos c.requires.node.trie)) c.in-Some.is, c.requires.node.holds.room, c.requires.value_len)

pub returns-in-Some : goal.returns-in-Some
returns-in-Some c = λ t m h n. (found t m _ _ h.proper n _ _ (c.walk.ensures t h (size_pos t)) c.in-Some.is).1

pub returns-in-None : goal.returns-in-None
returns-in-None c = λ t m h n. missed t m _ _ h.proper n _ (c.walk.ensures t h (size_pos t)) c.in-None.is
