use Rattle.std.proofs.Common.{arith}
use Rattle.comparer_search.proofs.Trying.{entry_tried}
use Rattle.comparer_search.proofs.try_entry.Goals as goal

pub returns : goal.returns
returns c = (entry_tried c.args.sides.now c.loop-i.marks c.loop-i.queue c.args.head c.loop-i.i c.loop-i.last c.loop-i-test.false (omega arith) c.loop-i.invariant.searched, c.loop-i.invariant.ahead, c.loop-i.invariant.few)
