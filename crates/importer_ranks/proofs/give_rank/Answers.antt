use native.Mathlib.Omega.{arith}
use Rattle.importer_ranks.proofs.Ranking.{rank_kept, rank_given}
use Rattle.importer_ranks.proofs.give_rank.Goals as goal

pub returns-then-ranks-j-ne0 : goal.returns-then-ranks-j-ne0
returns-then-ranks-j-ne0 c = (λ names order n at m numbered counted. rank_kept _ names order at n _ _ m numbered counted (λ e. omega (arith, c.if-ranks-j-ne0.true)), omega arith)

pub returns : goal.returns
returns c = (λ names order n at m numbered counted. rank_given _ names order at n _ _ m numbered counted (omega (arith, c.if-ranks-j-ne0.false)) _ (omega arith), omega arith)
