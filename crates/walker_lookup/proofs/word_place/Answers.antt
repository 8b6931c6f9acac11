use Rattle.std.proofs.Common.{arith}
use Rattle.walker_lookup.proofs.Lookups.{passing_next, passing_here}
use Rattle.walker_lookup.proofs.word_place.Goals as goal

pub loop-preserved : goal.loop-preserved
loop-preserved c = passing_next _ _ _ _ _ c.requires.number_lt_count _ _ c.loop.invariant _ c.loop-test.true c.word_length.ensures.1

pub returns : goal.returns
returns c = passing_here _ _ _ _ _ c.requires.number_lt_count _ _ c.loop.invariant (omega (arith, c.loop-test.false))
