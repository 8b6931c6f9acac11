use native.Mathlib.Omega.{arith}
use mathlib.Core.Path.{refl, sym, ◌∙◌}
use Rattle.checker_ways.proofs.Ways.{node_to, node_known, node_off, kept_more}
use Rattle.checker_ways.proofs.way_of_middle.Goals as goal

pub keep_node-requires : goal.keep_node-requires
keep_node-requires c = let (less, word) = node_to c.requires.keeping.holds.proper _ _ _ c.requires.keeping.below (c.walk_middle.ensures c.requires.keeping.trie c.requires.keeping.longest c.requires.keeping.holds c.requires.keeping.below c.requires.keeping.less c.requires.keeping.kept) _ c.in-Some.is in omega (arith, c.requires.keeping.holds.room, c.requires.keeping.holds.small)

pub is_marked-requires : goal.is_marked-requires
is_marked-requires c = let (less, word) = node_to c.requires.keeping.holds.proper _ _ _ c.requires.keeping.below (c.walk_middle.ensures c.requires.keeping.trie c.requires.keeping.longest c.requires.keeping.holds c.requires.keeping.below c.requires.keeping.less c.requires.keeping.kept) _ c.in-Some.is in omega (arith, c.requires.marks_len, c.requires.keeping.holds.room)

pub returns-then-is_marked : goal.returns-then-is_marked
returns-then-is_marked c = λ t longest h below less kept. (node_known h.proper _ _ _ below (c.walk_middle.ensures t longest h below less kept) _ c.in-Some.is _ _ c.is_marked.ensures c.if-is_marked.true, record { kept = λ stays. rw c.keep_node.ensures (kept_more t _ _ longest _ c.args.kept.now _ kept (sym c.in-Some.is ∙ (c.walk_middle.ensures t longest h below less kept))) })

pub returns : goal.returns
returns c = λ t longest h below less kept. (node_to h.proper _ _ _ below (c.walk_middle.ensures t longest h below less kept) _ c.in-Some.is, record { kept = λ stays. rw c.keep_node.ensures (kept_more t _ _ longest _ c.args.kept.now _ kept (sym c.in-Some.is ∙ (c.walk_middle.ensures t longest h below less kept))) })

pub returns-in_default : goal.returns-in_default
returns-in_default c = λ t longest h below less kept. (node_off h.proper _ _ _ below (c.walk_middle.ensures t longest h below less kept) c.in_default.is, record { kept = λ stays. absurd (stays refl) })
