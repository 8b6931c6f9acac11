use Rattle.std.proofs.Common.{arith, refl, ap, ◌∙◌}
use Rattle.comparer_pairs.specs.Sides.{golden_at, unit_at}
use Rattle.comparer_pairs.specs.Marks.{with_mark}
use Rattle.comparer_search.proofs.Searching.{searched_start}
use Rattle.comparer_search.proofs.Trying.{all_tried}
use Rattle.comparer_search.proofs.search.Goals as goal

pub loop-head-init : goal.loop-head-init
loop-head-init c = record {
  searched = searched_start c.args.sides.now.inputs (golden_at c.args.sides.now) (unit_at c.args.sides.now) c.meet.new.marks c.args.queue.now c.requires.queue_len (c.meet.ensures ∙ ap (λ l. with_mark l 0) c.no_marks-marks.ensures);
  within = omega arith;
  few = omega arith;
  queue_long = refl;
}

pub returns : goal.returns
returns c = all_tried c.args.sides.now c.loop-head.marks c.loop-head.queue c.loop-head.head c.loop-head.tail (omega (arith, c.loop-head-test.false)) c.loop-head.invariant.searched
