use native.Mathlib.Omega.{arith}
use lib.ListN.{length-set}
use Rattle.finder.proofs.Sections.{count_written}
use Rattle.finder.proofs.writing.write_count.Goals as goal

pub bounds-out-at-2 : goal.bounds-out-at-2
bounds-out-at-2 c = simp length-set (omega (arith, c.requires.0))

pub returns : goal.returns
returns c = count_written _ _ _
