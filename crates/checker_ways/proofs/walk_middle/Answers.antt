use Prim.Native.Nat.{◌-◌}
use native.Mathlib.Omega.{arith}
use native.Mathlib.Nat.{mod-lt}
use Rattle.middles.specs.Parents.{some_inputs}
use Rattle.checker_ways.proofs.Ways.{walk_first, parent_kept, parent_below, step_walk}
use Rattle.checker_ways.proofs.walk_middle.Goals as goal

pub returns-then-y-eq0 : goal.returns-then-y-eq0
returns-then-y-eq0 c = λ t longest h below less kept. walk_first t _ _ longest _ c.args.kept.now c.if-y-eq0.true

pub nonzero_div-y : goal.nonzero_div-y
nonzero_div-y c = let pos = some_inputs _ _ c.if-y-eq0.false _ c.requires.less in omega (arith, pos)

pub offset_bounds-kept-y : goal.offset_bounds-kept-y
offset_bounds-kept-y c = let inside = parent_kept c.requires.trie c.args.from _ c.requires.longest _ c.args.kept.now c.if-y-eq0.false c.requires.less c.requires.few c.requires.short c.requires.places in omega (arith, inside, c.requires.places)

pub bounds-kept-y : goal.bounds-kept-y
bounds-kept-y c = let inside = parent_kept c.requires.trie c.args.from _ c.requires.longest _ c.args.kept.now c.if-y-eq0.false c.requires.less c.requires.few c.requires.short c.requires.places in inside

pub nonzero_rem-i : goal.nonzero_rem-i
nonzero_rem-i c = let pos = some_inputs _ _ c.if-y-eq0.false _ c.requires.less in omega (arith, pos)

pub overflow_cast-i : goal.overflow_cast-i
overflow_cast-i c = let pos = some_inputs _ _ c.if-y-eq0.false _ c.requires.less in omega (arith, mod-lt (c.args.y - 1) pos, c.requires.few)

pub child-requires : goal.child-requires
child-requires c = let inside = parent_kept c.requires.trie c.args.from _ c.requires.longest _ c.args.kept.now c.if-y-eq0.false c.requires.less c.requires.few c.requires.short c.requires.places in record { trie = c.requires.trie; holds = c.requires.holds; below = rw c.wide_link-up.ensures (parent_below c.requires.trie _ _ c.requires.longest _ c.args.kept.now c.if-y-eq0.false c.requires.less c.requires.kept inside c.requires.holds.proper c.requires.below) }

pub returns : goal.returns
returns c = λ t longest h below less kept. let inside = parent_kept c.requires.trie c.args.from _ c.requires.longest _ c.args.kept.now c.if-y-eq0.false c.requires.less c.requires.few c.requires.short c.requires.places in step_walk t _ _ longest _ c.args.kept.now c.if-y-eq0.false less kept inside _ c.wide_link-up.ensures _ ((rw c.numbered.ensures at (c.child.ensures t h)) (rw c.wide_link-up.ensures (parent_below t _ _ longest _ c.args.kept.now c.if-y-eq0.false less kept inside h.proper below)))
