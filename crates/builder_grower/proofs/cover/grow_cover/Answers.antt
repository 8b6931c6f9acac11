use native.Mathlib.Omega.{arith}
use mathlib.Core.Path.{refl, sym, ◌∙◌}
use Rattle.trie.specs.Grow.{size_pos}
use Rattle.builder_grower.proofs.Covering.{cover_full, cover_ready, cover_grows}
use Rattle.builder_grower.proofs.cover.grow_cover.Goals as goal

pub put_word-requires-clause-whole : goal.put_word-requires-clause-whole
put_word-requires-clause-whole c = c.requires.whole.0

pub put_word-requires-clause-counted : goal.put_word-requires-clause-counted
put_word-requires-clause-counted c = (record { trie = c.requires.ready.trie; holds = c.requires.ready.holds; counted = c.requires.ready.counted }, omega (arith, c.requires.ready.counted, size_pos c.requires.ready.trie))

pub returns-in_err-node : goal.returns-in_err-node
returns-in_err-node c = λ t h e d. rw c.from_residual.ensures (cover_full _ _ _ _ _ (record { number = 0; below = c.requires.whole.1.one; stands = refl }) t _ _ _ _ _ h e d _ _ _ _ c.put_word.ensures c.in_err-node.was)

pub grow-requires-clause-separators : goal.grow-requires-clause-separators
grow-requires-clause-separators c = let ready = cover_ready _ _ 0 _ _ (record { number = 0; below = c.requires.whole.1.one; stands = refl }) c.requires.ready.trie _ _ _ _ _ c.requires.ready.holds c.requires.ready.counted c.requires.ready.marked _ _ _ _ c.put_word.ensures _ _ c.in_ok-node.was in c.requires.whole.1

pub grow-requires-clause-ready : goal.grow-requires-clause-ready
grow-requires-clause-ready c = let ready = cover_ready _ _ 0 _ _ (record { number = 0; below = c.requires.whole.1.one; stands = refl }) c.requires.ready.trie _ _ _ _ _ c.requires.ready.holds c.requires.ready.counted c.requires.ready.marked _ _ _ _ c.put_word.ensures _ _ c.in_ok-node.was in ready.0

pub grow-requires-clause-node_lt_nodes : goal.grow-requires-clause-node_lt_nodes
grow-requires-clause-node_lt_nodes c = let ready = cover_ready _ _ 0 _ _ (record { number = 0; below = c.requires.whole.1.one; stands = refl }) c.requires.ready.trie _ _ _ _ _ c.requires.ready.holds c.requires.ready.counted c.requires.ready.marked _ _ _ _ c.put_word.ensures _ _ c.in_ok-node.was in (ready.1, c.requires.left_bound.0, c.requires.left_bound.1 ∙ sym c.put_word.auto.label)

pub returns : goal.returns
returns c = λ t h e d. cover_grows _ _ c.args.left _ _ (record { number = 0; below = c.requires.whole.1.one; stands = refl }) t _ _ _ _ _ h e d _ _ _ _ c.put_word.ensures _ _ c.in_ok-node.was c.grow.new.label c.grow.new.first c.grow.new.next c.grow.new.done c.grow.result c.grow.ensures
