use mathlib.Core.Path.{sym, ◌∙◌}
use Rattle.trie.specs.Grow.{child_lt}
use Rattle.trie.proofs.Steps.{walk_step, walk_off, walk_end}
use Rattle.trie.proofs.walk.Goals as goal

pub returns-in_default : goal.returns-in_default
returns-in_default c = λ t h less.
    let at = c.loop-a.invariant t h less in
    sym (at.1 ∙ walk_off t _ _ _ _ c.numbered.ensures c.loop-a-test.true (c.in_default.ensures t h at.0))

pub loop-a-preserved : goal.loop-a-preserved
loop-a-preserved c = λ t h less.
    let at = c.loop-a.invariant t h less in
    let on = c.in-Some.ensures t h at.0 in
    (rw on.0 (child_lt t _ _), at.1 ∙ walk_step t _ _ _ _ _ c.numbered.ensures c.loop-a-test.true on)

pub returns : goal.returns
returns c = λ t h less. sym ((c.loop-a.invariant t h less).1 ∙ walk_end t _ _ _ c.loop-a-test.false)
