use native.Mathlib.Omega.{arith}
use Rattle.comparer_pairs.specs.Queue.{pair_at}
use native.Mathlib.Nat.{mod-lt}
use Rattle.comparer_pairs.proofs.queue.pair_at.Goals as goal

pub returns : goal.returns
unfolding pair_at
returns c = (rw c.wide_entry.ensures, mod-lt c.wide_entry.result (omega arith))
