use native.Mathlib.Omega.{arith}
use Rattle.builder_branches.proofs.Branching.{putting_start, putting_counted, putting_next, putting_full, putting_end, grew_known}
use Rattle.builder_branches.proofs.put_separators.Goals as goal

pub returns-then-done-node-ne0 : goal.returns-then-done-node-ne0
returns-then-done-node-ne0 c = λ k t h e d. grew_known _ _ t _ _ (omega (arith, c.requires.counted.1)) _ _ _ _ _ (omega (arith, c.if-done-node-ne0.true)) h e d

pub loop-e-init : goal.loop-e-init
loop-e-init c = λ k t h e. putting_start _ _ _ _ t _ _ _ _ _ h e

pub put_word-requires-clause-whole : goal.put_word-requires-clause-whole
put_word-requires-clause-whole c = c.requires.separators.whole _ c.loop-e-test.true

pub put_word-requires-clause-counted : goal.put_word-requires-clause-counted
put_word-requires-clause-counted c = putting_counted _ _ _ _ _ _ _ _ _ _ _ (c.loop-e.invariant 0 c.requires.counted.0.trie c.requires.counted.0.holds c.requires.counted.0.counted) (omega (arith, c.requires.counted.1, c.requires.counted.0.counted))

pub returns-in_err-more : goal.returns-in_err-more
returns-in_err-more c = λ k t h e d. rw c.from_residual.ensures (putting_full _ _ _ _ _ _ _ _ _ _ _ (c.loop-e.invariant k t h e) (omega (arith, c.requires.counted.1)) c.loop-e-test.true c.put_word.new.label c.put_word.new.first c.put_word.new.next _ c.put_word.ensures c.in_err-more.was)

pub loop-e-preserved : goal.loop-e-preserved
loop-e-preserved c = λ k t h e. putting_next _ _ _ _ _ _ _ _ _ _ _ (c.loop-e.invariant k t h e) (omega (arith, c.requires.counted.1)) c.loop-e-test.true _ _ _ _ c.put_word.ensures _ _ c.in_ok-more.was

pub returns : goal.returns
returns c = λ k t h e d. putting_end _ _ _ _ _ _ _ _ _ _ _ (c.loop-e.invariant k t h e) (omega (arith, c.requires.counted.1)) _ c.loop-e-test.false d
