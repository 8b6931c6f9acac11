use Rattle.trie.proofs.Steps.{inserting_next, inserting_full, inserting_end}
use Rattle.trie.proofs.insert_at.Goals as goal

pub returns-in_err-j : goal.returns-in_err-j
returns-in_err-j c = λ t h k.
    let at = c.loop-a.invariant t h k in
    let full = rw c.numbered.ensures at (c.in_err-j.ensures at.trie at.holds at.counted) in
    rw c.from_residual.ensures (inserting_full t _ _ _ _ _ _ _ _ at c.step.new.label c.step.new.first c.step.new.next c.loop-a-test.true full)

pub loop-a-preserved : goal.loop-a-preserved
loop-a-preserved c = λ t h k.
    let at = c.loop-a.invariant t h k in
    inserting_next t _ _ _ _ _ _ _ _ at _ _ _ _ _ c.loop-a-test.true (rw c.numbered.ensures at (c.in_ok-j.ensures at.trie at.holds at.counted))

pub returns : goal.returns
returns c = λ t h k. inserting_end t _ _ _ _ _ _ _ _ (c.loop-a.invariant t h k) c.loop-a-test.false
