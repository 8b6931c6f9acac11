use Prim.Native.Nat.{◌-◌}
use mathlib.Core.Path.{refl, sym, ◌∙◌}
use mathlib.Core.List.{[], ◌∷◌, ◌++◌}
use native.Mathlib.Omega.{arith}
use Rattle.trie.specs.Model.{size, word_of}
use Rattle.trie.specs.Grow.{child_lt}
use Rattle.trie.specs.Words.{child_gt}
use Rattle.trie_lister.proofs.Writes.{visiting_child, visiting_down}
use Rattle.trie_lister.proofs.Measures.{deeper, measure_leaf, measure_over, measuring_start, measuring_skip, measuring_more, measuring_over, measuring_end}
use Rattle.trie_lister.proofs.+measure.Goals as goal

pub returns-then-room-at : goal.returns-then-room-at
returns-then-room-at t c = λ x h less d deep u long.
    measure_over x c.args.k d c.args.node u c.args.words c.args.at c.args.room deep less (sym (h.firsts c.args.node less) ∙ c.if-nodes-node-eq0.true) c.args.depth long c.requires.2 c.if-room-at.true

pub returns-then-nodes-node-eq0 : goal.returns-then-nodes-node-eq0
returns-then-nodes-node-eq0 t c = λ x h less d deep u long.
    measure_leaf x c.args.k d c.args.node u c.args.words c.args.at c.args.room deep less (sym (h.firsts c.args.node less) ∙ c.if-nodes-node-eq0.true) c.args.depth long c.requires.1 c.requires.2 c.if-room-at.false

pub loop-a-init : goal.loop-a-init
loop-a-init t c = (
  c.requires.1,
  c.requires.2,
  λ x h less d deep u long. measuring_start x c.args.k d c.args.node u c.args.words c.args.at c.args.room deep less (λ z. c.if-nodes-node-eq0.false (h.firsts c.args.node less ∙ z)),
)

pub loop-a-preserved-in_default : goal.loop-a-preserved-in_default
loop-a-preserved-in_default t c = (
  c.loop-a.invariant.0,
  c.loop-a.invariant.1,
  λ x h less d deep u long.
      measuring_skip x c.args.k d c.args.node u c.args.words c.args.at c.args.room c.loop-a.a c.loop-a.n c.loop-a.pos (c.loop-a.invariant.2 x h less d deep u long) c.loop-a-test.true (rw c.numbered.ensures at (c.in_default.ensures x h less)),
)

pub measure-requires : goal.measure-requires
measure-requires t c = let e = c.in-Some.ensures c.requires.0.trie c.requires.0.holds c.requires.0.below in (
  omega (arith, visiting_down _ _ _ _ _ _ c.requires.0 _ _ e, c.decreases),
  (visiting_child _ _ _ _ _ _ c.requires.0 _ _ e _ refl, c.loop-a.invariant.0, c.loop-a.invariant.1),
)

pub returns-in_err-m : goal.returns-in_err-m
returns-in_err-m t c = λ x h less d deep u long.
    let e = rw c.numbered.ensures at (c.in-Some.ensures x h less) in
    let up = child_gt h.proper c.args.node c.loop-a.a (λ z. omega (arith, e.0, e.1)) in
    rw c.from_residual.ensures
    (measuring_over x c.args.k d c.args.node u c.args.words c.args.at c.args.room c.loop-a.a c.loop-a.n c.loop-a.pos (c.loop-a.invariant.2 x h less d deep u long) _ c.loop-a-test.true e
    (c.in_err-m.ensures x h (rw e.0 (child_lt x _ _)) (d - 1) (omega (arith, rw (← e.0) at up)) (u ++ (c.loop-a.a ∷ [])) (deeper u c.loop-a.a c.args.depth long)))

pub loop-a-preserved : goal.loop-a-preserved
loop-a-preserved t c = let e₀ = c.in-Some.ensures c.requires.0.trie c.requires.0.holds c.requires.0.below in
    let found = c.in_ok-m.ensures c.requires.0.trie c.requires.0.holds (rw e₀.0 (child_lt c.requires.0.trie _ _)) (size c.requires.0.trie) (omega arith) (word_of c.requires.0.trie c.args.node ++ (c.loop-a.a ∷ [])) (deeper (word_of c.requires.0.trie c.args.node) c.loop-a.a c.args.depth c.requires.0.level) in (
      found.3,
      found.2,
      λ x h less d deep u long.
          let e = rw c.numbered.ensures at (c.in-Some.ensures x h less) in
          let up = child_gt h.proper c.args.node c.loop-a.a (λ z. omega (arith, e.0, e.1)) in
          measuring_more x c.args.k d c.args.node u c.args.words c.args.at c.args.room c.loop-a.a c.loop-a.n c.loop-a.pos (c.loop-a.invariant.2 x h less d deep u long) _ c.loop-a-test.true e _ _
          (c.in_ok-m.ensures x h (rw e.0 (child_lt x _ _)) (d - 1) (omega (arith, rw (← e.0) at up)) (u ++ (c.loop-a.a ∷ [])) (deeper u c.loop-a.a c.args.depth long)),
    )

pub returns : goal.returns
returns t c = λ x h less d deep u long.
    measuring_end x c.args.k d c.args.node u c.args.words c.args.at c.args.room c.loop-a.a c.loop-a.n c.loop-a.pos (c.loop-a.invariant.2 x h less d deep u long) c.loop-a-test.false c.loop-a.invariant.0 c.loop-a.invariant.1
