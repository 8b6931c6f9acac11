use Rattle.std.proofs.Common.{refl, ap, not}
use Rattle.comparer_pairs.specs.Sides.{golden_at, unit_at}
use Rattle.comparer_pairs.proofs.Looks.{look_apart, look_next}
use Rattle.comparer_pairs.proofs.pairs.look.Goals as goal

pub returns-then-not-outputs_agree : goal.returns-then-not-outputs_agree
returns-then-not-outputs_agree c =
    look_apart (golden_at c.args.sides.now) (unit_at c.args.sides.now) c.args.pair c.args.input.0 _ _ c.standing-golden.ensures.4 c.standing-unit.ensures.4
    _ _ _ _ c.golden_of-g.ensures c.unit_of-u.ensures refl c.outputs_agree.ensures (ap not c.if-not-outputs_agree.true)

pub returns : goal.returns
returns c =
    look_next (golden_at c.args.sides.now) (unit_at c.args.sides.now) c.args.pair c.args.input.0 _ _ c.standing-golden.ensures.4 c.standing-unit.ensures.4
    _ _ _ _ c.golden_of-g.ensures c.unit_of-u.ensures refl c.outputs_agree.ensures (ap not c.if-not-outputs_agree.false) _ _ _ c.next-next.ensures.0 c.next-unext.ensures.0 c.pair_of.ensures
