use native.Mathlib.Omega.{arith}
use mathlib.Core.Path.{refl, sym, ◌∙◌}
use Rattle.builder_branches.proofs.Branching.{grew_known, put_full, put_ready, grow_full, grow_end, turning_start, turning_none, turning_counted, turning_end, step_full, step_ready, child_full, child_next}
use Rattle.builder_branches.proofs.+grow_grow_children.Goals as goal

-- what the callees ask and tell

pub grow-returns-then-left-done : goal.grow-returns-then-left-done
grow-returns-then-left-done t c = λ x h e d. grew_known _ _ x _ _ (omega (arith, c.requires.node_lt_nodes.0)) _ _ _ _ _ (omega (arith, c.if-left-done.true)) h e d

pub grow-put_separators-requires-clause-separators : goal.grow-put_separators-requires-clause-separators
grow-put_separators-requires-clause-separators t c = c.requires.separators

pub grow-put_separators-requires-clause-counted : goal.grow-put_separators-requires-clause-counted
grow-put_separators-requires-clause-counted t c = (record { trie = c.requires.ready.trie; holds = c.requires.ready.holds; counted = c.requires.ready.counted }, c.requires.node_lt_nodes.0, omega (arith, c.requires.node_lt_nodes.0, c.requires.node_lt_nodes.2, c.requires.ready.counted, c.requires.ready.holds.room))

pub grow-returns-in_err-m : goal.grow-returns-in_err-m
grow-returns-in_err-m t c = λ x h e d. rw c.from_residual.ensures (put_full _ _ x _ _ (omega (arith, c.requires.node_lt_nodes.0)) _ _ _ _ _ (c.put_separators.ensures _ x h e d) c.in_err-m.was)

pub grow-grow_children-requires : goal.grow-grow_children-requires
grow-grow_children-requires t c = let ready = put_ready _ _ c.requires.ready.trie _ 0 (omega (arith, c.requires.node_lt_nodes.0, c.requires.ready.counted)) _ _ _ _ _ (c.put_separators.ensures _ c.requires.ready.trie c.requires.ready.holds c.requires.ready.counted c.requires.ready.marked) _ c.in_ok-m.was in (omega (arith, c.decreases), (c.requires.separators, (ready.0, (ready.1, c.requires.node_lt_nodes.1, c.requires.node_lt_nodes.2 ∙ sym c.put_separators.auto.label))))

pub grow-returns-in_err-all : goal.grow-returns-in_err-all
grow-returns-in_err-all t c = λ x h e d. rw c.from_residual-in_err-all.ensures (grow_full _ _ x _ _ (omega (arith, c.requires.node_lt_nodes.0)) _ _ _ _ _ (c.put_separators.ensures _ x h e d) _ c.in_ok-m.was _ _ _ _ _ c.grow_children.ensures c.in_err-all.was)

pub grow-returns : goal.grow-returns
grow-returns t c = λ x h e d. grow_end _ _ x _ _ (omega (arith, c.requires.node_lt_nodes.0)) _ _ _ _ _ (c.put_separators.ensures _ x h e d) _ c.in_ok-m.was _ _ _ _ _ c.grow_children.ensures _ c.in_ok-all.was
    (omega (arith, c.grow_children.auto.done, c.requires.node_lt_nodes.0, c.requires.node_lt_nodes.2, c.requires.ready.counted, c.requires.ready.holds.room))

pub grow_children-returns-then-left-eq0 : goal.grow_children-returns-then-left-eq0
grow_children-returns-then-left-eq0 t c = λ x h e d backs. turning_none _ _ x _ _ _ _ _ _ _ c.if-left-eq0.true h e d backs

pub grow_children-loop-a-init : goal.grow_children-loop-a-init
grow_children-loop-a-init t c = λ x h e d. turning_start _ _ x _ _ _ _ _ _ _ h e d

pub grow_children-step-requires-clause-counted : goal.grow_children-step-requires-clause-counted
grow_children-step-requires-clause-counted t c = (turning_counted _ _ c.requires.ready.trie _ _ _ _ _ _ _ _ (c.loop-a.invariant c.requires.ready.trie c.requires.ready.holds c.requires.ready.counted c.requires.ready.marked) (omega (arith, c.requires.node_lt_nodes.0, c.requires.ready.counted))).0

pub grow_children-step-requires-clause-p_lt_count : goal.grow_children-step-requires-clause-p_lt_count
grow_children-step-requires-clause-p_lt_count t c = (turning_counted _ _ c.requires.ready.trie _ _ _ _ _ _ _ _ (c.loop-a.invariant c.requires.ready.trie c.requires.ready.holds c.requires.ready.counted c.requires.ready.marked) (omega (arith, c.requires.node_lt_nodes.0, c.requires.ready.counted))).1

pub grow_children-returns-in_err-child : goal.grow_children-returns-in_err-child
grow_children-returns-in_err-child t c = λ x h e d backs. rw c.from_residual.ensures (step_full _ _ x _ _ _ _ _ _ _ _ (c.loop-a.invariant x h e d) (omega (arith, c.requires.node_lt_nodes.0)) (omega (arith, c.loop-a-test.true)) (omega (arith, c.if-left-eq0.false)) _ (record { number = 0; below = c.requires.separators.one; stands = refl }) _ _ _ _ (λ t' h' e'. rw c.numbered.ensures at (c.step.ensures t' h' e')) c.in_err-child.was)

pub grow_children-grow-requires : goal.grow_children-grow-requires
grow_children-grow-requires t c = let ready = step_ready _ _ c.requires.ready.trie _ _ _ _ _ _ _ _ (c.loop-a.invariant c.requires.ready.trie c.requires.ready.holds c.requires.ready.counted c.requires.ready.marked) (omega (arith, c.requires.node_lt_nodes.0, c.requires.ready.counted)) (omega (arith, c.loop-a-test.true)) (omega (arith, c.if-left-eq0.false)) _ (record { number = 0; below = c.requires.separators.one; stands = refl }) _ _ _ _ (λ t' h' e'. rw c.numbered.ensures at (c.step.ensures t' h' e')) _ _ c.in_ok-child.was in (omega (arith, c.decreases, c.if-left-eq0.false), (c.requires.separators, (ready.0, (ready.1, omega (arith, c.requires.node_lt_nodes.1), omega (arith, c.loop-a.auto.done, c.requires.node_lt_nodes.2, c.step.auto.label, c.loop-a.auto.label)))))

pub grow_children-returns-in_err-count : goal.grow_children-returns-in_err-count
grow_children-returns-in_err-count t c = λ x h e d backs. rw c.from_residual-in_err-count.ensures (child_full _ _ x _ _ _ _ _ _ _ _ (c.loop-a.invariant x h e d) (omega (arith, c.requires.node_lt_nodes.0)) (omega (arith, c.loop-a-test.true)) (omega (arith, c.if-left-eq0.false)) _ (record { number = 0; below = c.requires.separators.one; stands = refl }) _ _ _ _ (λ t' h' e'. rw c.numbered.ensures at (c.step.ensures t' h' e')) _ _ c.in_ok-child.was _ _ _ _ _ c.grow.ensures c.in_err-count.was)

pub grow_children-loop-a-preserved : goal.grow_children-loop-a-preserved
grow_children-loop-a-preserved t c = λ x h e d. child_next _ _ x _ _ _ _ _ _ _ _ (c.loop-a.invariant x h e d) (omega (arith, c.requires.node_lt_nodes.0)) (omega (arith, c.loop-a-test.true)) (omega (arith, c.if-left-eq0.false)) _ (record { number = 0; below = c.requires.separators.one; stands = refl }) _ _ _ _ (λ t' h' e'. rw c.numbered.ensures at (c.step.ensures t' h' e')) _ _ c.in_ok-child.was _ _ _ _ _ c.grow.ensures _ c.in_ok-count.was

pub grow_children-returns : goal.grow_children-returns
grow_children-returns t c = λ x h e d backs. turning_end _ _ x _ _ _ _ _ _ _ _ (c.loop-a.invariant x h e d) (omega (arith, c.requires.node_lt_nodes.0)) (omega (arith, c.loop-a-test.false)) backs
