use native.Mathlib.Omega.{arith}
use mathlib.Core.Path.{◌∙◌}
use Rattle.importer_ranks.proofs.Ranking.{ranking_start, ranking_next, ranking_done}
use Rattle.importer_ranks.proofs.give_ranks.Goals as goal

pub loop-j-init : goal.loop-j-init
loop-j-init c = ranking_start _ _ _

pub give_rank-all-requires : goal.give_rank-all-requires
give_rank-all-requires c = (c.loop-j.invariant.long ∙ c.requires.0, omega (arith, c.requires.1, c.loop-j-test.true), omega (arith, c.loop-j.invariant.few, c.requires.1, c.requires.2, c.loop-j-test.true))

pub loop-j-preserved : goal.loop-j-preserved
loop-j-preserved c = ranking_next _ _ _ _ _ _ c.loop-j.invariant c.loop-j-test.true _ _ c.give_rank-all.auto.ranks c.give_rank-all.ensures

pub returns : goal.returns
returns c = ranking_done _ _ _ _ _ _ c.loop-j.invariant (omega (arith, c.loop-j-test.false))
