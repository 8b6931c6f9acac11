use Rattle.comparer_search.proofs.Trying.{try_pair, try_tells, try_room, try_put}
use Rattle.comparer_search.proofs.try_input.Goals as goal

pub look-requires : goal.look-requires
look-requires c = (c.pair_at.ensures.1, (try_pair c.args.sides.now c.args.marks.now c.args.queue.now c.args.head c.args.input.0 c.args.tail c.requires.searched c.requires.head_lt_tail.0 c.requires.head_lt_tail.1 c.requires.head_lt_tail.2 _ c.pair_at.ensures.0), c.requires.head_lt_tail.2)

pub put-requires-clause-pair_lt_pairs : goal.put-requires-clause-pair_lt_pairs
put-requires-clause-pair_lt_pairs c = (try_room c.args.sides.now c.args.marks.now c.args.queue.now c.args.head c.args.input.0 c.args.tail c.requires.searched c.requires.head_lt_tail.0 c.requires.head_lt_tail.1 c.requires.head_lt_tail.2 _ c.pair_at.ensures.0 _ c.look.ensures _ c.in-Some.is).1.0

pub put-requires-clause-tail_lt_pairs : goal.put-requires-clause-tail_lt_pairs
put-requires-clause-tail_lt_pairs c = (try_room c.args.sides.now c.args.marks.now c.args.queue.now c.args.head c.args.input.0 c.args.tail c.requires.searched c.requires.head_lt_tail.0 c.requires.head_lt_tail.1 c.requires.head_lt_tail.2 _ c.pair_at.ensures.0 _ c.look.ensures _ c.in-Some.is).1.1

pub returns-in-None : goal.returns-in-None
returns-in-None c = try_tells c.args.sides.now c.args.marks.now c.args.queue.now c.args.head c.args.input.0 c.args.tail c.requires.searched c.requires.head_lt_tail.0 c.requires.head_lt_tail.1 c.requires.head_lt_tail.2 _ c.pair_at.ensures.0 _ c.look.ensures c.in-None.is

pub returns-in-Some : goal.returns-in-Some
returns-in-Some c = try_put c.args.sides.now c.args.marks.now c.args.queue.now c.args.head c.args.input.0 c.args.tail c.requires.searched c.requires.head_lt_tail.0 c.requires.head_lt_tail.1 c.requires.head_lt_tail.2 _ c.pair_at.ensures.0 _ c.look.ensures _ c.in-Some.is _ _ _ c.put.ensures
