use mathlib.Core.Path.{ap}
use native.Mathlib.Omega.{arith}
use lib.ListN.{length}
use Rattle.finder_access.proofs.Backwards.{back_less, back_length, back_start}
use Rattle.finder_access.proofs.spelling.word_length.Goals as goal

pub loop-at-init : goal.loop-at-init
loop-at-init c = (omega arith, omega arith, λ word s. omega arith)

pub parent_at-at-requires : goal.parent_at-at-requires
parent_at-at-requires c = omega (arith, c.loop-at.invariant.0, c.requires.0, c.requires.1)

pub overflow_add-n : goal.overflow_add-n
overflow_add-n c = omega (arith, c.loop-at.invariant.1, c.requires.1)

pub loop-at-smaller : goal.loop-at-smaller
loop-at-smaller c = back_less c.args.place c.requires.2 c.loop-at.at _ c.loop-at-test.true c.loop-at.invariant.0 c.parent_at-at.ensures

pub loop-at-preserved : goal.loop-at-preserved
loop-at-preserved c = let less = back_less c.args.place c.requires.2 c.loop-at.at _ c.loop-at-test.true c.loop-at.invariant.0 c.parent_at-at.ensures in (omega (arith, c.loop-at.invariant.0), omega (arith, c.loop-at.invariant.1), λ word s. omega (arith, c.loop-at.invariant.2 word s, back_length c.args.place s c.loop-at.at _ c.loop-at-test.true c.loop-at.invariant.0 c.parent_at-at.ensures))

pub returns : goal.returns
returns c = (λ word s. omega (arith, c.loop-at.invariant.2 word s, ap length (back_start c.args.place s c.loop-at.at (omega (arith, c.loop-at-test.false)))), omega (arith, c.loop-at.invariant.1))
