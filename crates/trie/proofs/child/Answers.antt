use Rattle.trie.proofs.Chain.{along_start, along_here, along_next, next_less, along_end}
use Rattle.trie.proofs.child.Goals as goal

pub loop-j-init : goal.loop-j-init
loop-j-init c = λ t h less. along_start t _ _ _ h _ _ _ less c.wide_link-j.ensures

pub returns-then-nodes-j : goal.returns-then-nodes-j
returns-then-nodes-j c = λ t h less. rw c.number-wanted.ensures at (along_here t _ _ _ h _ _ _ (c.loop-j.invariant t h less) c.loop-j-test.true c.if-nodes-j.true)

pub loop-j-smaller : goal.loop-j-smaller
loop-j-smaller c = next_less c.requires.trie _ _ _ c.requires.holds _ _ (c.loop-j.invariant c.requires.trie c.requires.holds c.requires.below).0 c.loop-j-test.true c.wide_link-j-in-loop-j.ensures

pub loop-j-preserved : goal.loop-j-preserved
loop-j-preserved c = λ t h less. along_next t _ _ _ h _ _ _ _ (c.loop-j.invariant t h less) c.loop-j-test.true c.if-nodes-j.false c.wide_link-j-in-loop-j.ensures

pub returns : goal.returns
returns c = λ t h less. rw c.number-wanted.ensures at (along_end t _ _ _ h _ _ _ (c.loop-j.invariant t h less) c.loop-j-test.false)
