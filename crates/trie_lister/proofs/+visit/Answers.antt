use Prim.Native.Nat.{◌-◌}
use mathlib.Core.Path.{refl, sym, ◌∙◌}
use native.Mathlib.Omega.{arith}
use lib.ListN.{take, length-set}
use Rattle.trie.specs.Model.{size}
use Rattle.trie.specs.Grow.{child_lt}
use Rattle.trie_lister.proofs.Writes.{written_start, written_skip, written_more, written_full, written_end, visit_leaf, visiting_level, visiting_child, visiting_room, visiting_down, prefix_next, prefix_kept}
use Rattle.trie.specs.Words.{child_gt}
use Rattle.trie_lister.proofs.+visit.Goals as goal

pub emit-requires : goal.emit-requires
emit-requires t c = let lev = visiting_level _ _ _ _ _ _ c.requires.visiting in (lev, omega (arith, lev, c.requires.path_len_bound.0), c.requires.path_len_bound.1)

pub returns-then-nodes-node-eq0-clause-wrote_of : goal.returns-then-nodes-node-eq0-clause-wrote_of
returns-then-nodes-node-eq0-clause-wrote_of t c = λ x h less d deep.
    visit_leaf x c.args.k d c.args.node c.args.depth c.args.path.now c.args.out.now c.emit.new.out c.args.at c.emit.result deep less (sym (h.firsts c.args.node less) ∙ c.if-nodes-node-eq0.true) (visiting_level _ _ _ _ _ _ c.requires.visiting) c.emit.ensures

pub loop-a-init : goal.loop-a-init
loop-a-init t c = (
  c.requires.path_len_bound.1,
  refl,
  λ x h less d deep. written_start x c.args.k d c.args.node _ _ c.args.at deep less (λ z. c.if-nodes-node-eq0.false (h.firsts c.args.node less ∙ z)),
)

pub loop-a-preserved-in_default : goal.loop-a-preserved-in_default
loop-a-preserved-in_default t c = (
  c.loop-a.invariant.0,
  c.loop-a.invariant.1,
  λ x h less d deep. written_skip x c.args.k d c.args.node (take c.args.depth c.args.path.now) c.args.out.now c.args.at c.loop-a.a c.loop-a.pos c.loop-a.out (c.loop-a.invariant.2 x h less d deep) c.loop-a-test.true (rw c.numbered.ensures at (c.in_default.ensures x h less)),
)

pub bounds-path-depth : goal.bounds-path-depth
bounds-path-depth t c = omega (arith, visiting_room _ _ _ _ _ _ c.requires.visiting _ _ (c.in-Some.ensures c.requires.visiting.trie c.requires.visiting.holds c.requires.visiting.below), c.loop-a.auto.path)

pub visit-requires : goal.visit-requires
visit-requires t c = let e = c.in-Some.ensures c.requires.visiting.trie c.requires.visiting.holds c.requires.visiting.below in (omega (arith, visiting_down _ _ _ _ _ _ c.requires.visiting _ _ e, c.decreases), (visiting_child _ _ _ _ _ _ c.requires.visiting _ _ e _ (length-set c.loop-a.path c.args.depth _ ∙ c.loop-a.auto.path), (simp length-set (omega (arith, c.loop-a.auto.path, c.requires.path_len_bound.0)), c.loop-a.invariant.0)))

pub returns-in_err-pos-clause-path_unchanged : goal.returns-in_err-pos-clause-path_unchanged
returns-in_err-pos-clause-path_unchanged t c = prefix_kept c.loop-a.path c.visit.new.path c.args.depth c.loop-a.a c.visit.ensures.path_unchanged ∙ c.loop-a.invariant.1

pub returns-in_err-pos-clause-wrote_of : goal.returns-in_err-pos-clause-wrote_of
returns-in_err-pos-clause-wrote_of t c = let in' = visiting_room _ _ _ _ _ _ c.requires.visiting _ _ (c.in-Some.ensures c.requires.visiting.trie c.requires.visiting.holds c.requires.visiting.below) in λ x h less d deep.
    let e = rw c.numbered.ensures at (c.in-Some.ensures x h less) in
    let up = child_gt h.proper c.args.node c.loop-a.a (λ z. omega (arith, e.0, e.1)) in
    rw c.from_residual.ensures
    (written_full x c.args.k d c.args.node (take c.args.depth c.args.path.now) c.args.out.now c.args.at c.loop-a.a c.loop-a.pos c.loop-a.out (c.loop-a.invariant.2 x h less d deep) _ c.visit.new.out c.loop-a-test.true e c.loop-a.invariant.0 c.requires.path_len_bound.1 c.loop-a.auto.out
    (rw (prefix_next c.loop-a.path (take c.args.depth c.args.path.now) c.args.depth c.loop-a.a (omega (arith, in', c.loop-a.auto.path)) c.loop-a.invariant.1) at (c.in_err-pos.ensures.wrote_of x h (rw e.0 (child_lt x _ _)) (d - 1) (omega (arith, rw (← e.0) at up)))))

pub loop-a-preserved : goal.loop-a-preserved
loop-a-preserved t c = let e₀ = c.in-Some.ensures c.requires.visiting.trie c.requires.visiting.holds c.requires.visiting.below in
    let in' = visiting_room _ _ _ _ _ _ c.requires.visiting _ _ e₀ in (
      (c.in_ok-pos.ensures.wrote_of c.requires.visiting.trie c.requires.visiting.holds (rw e₀.0 (child_lt c.requires.visiting.trie _ _)) (size c.requires.visiting.trie) (omega arith)).1,
      prefix_kept c.loop-a.path c.visit.new.path c.args.depth c.loop-a.a c.visit.ensures.path_unchanged ∙ c.loop-a.invariant.1,
      λ x h less d deep.
          let e = rw c.numbered.ensures at (c.in-Some.ensures x h less) in
          let up = child_gt h.proper c.args.node c.loop-a.a (λ z. omega (arith, e.0, e.1)) in
          written_more x c.args.k d c.args.node (take c.args.depth c.args.path.now) c.args.out.now c.args.at c.loop-a.a c.loop-a.pos c.loop-a.out (c.loop-a.invariant.2 x h less d deep) _ _ c.visit.new.out c.loop-a-test.true e
          (rw (prefix_next c.loop-a.path (take c.args.depth c.args.path.now) c.args.depth c.loop-a.a (omega (arith, in', c.loop-a.auto.path)) c.loop-a.invariant.1) at (c.in_ok-pos.ensures.wrote_of x h (rw e.0 (child_lt x _ _)) (d - 1) (omega (arith, rw (← e.0) at up)))),
    )

pub returns-clause-wrote_of : goal.returns-clause-wrote_of
returns-clause-wrote_of t c = λ x h less d deep. written_end x c.args.k d c.args.node (take c.args.depth c.args.path.now) c.args.out.now c.args.at c.loop-a.a c.loop-a.pos c.loop-a.out (c.loop-a.invariant.2 x h less d deep) c.loop-a-test.false c.loop-a.invariant.0 c.requires.path_len_bound.1
