use Rattle.std.proofs.Common.{sym, ◌∙◌}
use Rattle.comparer_pairs.specs.Sides.{golden_at, unit_at}
use Rattle.comparer.proofs.Answering.{found_at, answers_nowhere, answers_at}
use Rattle.comparer.proofs.answer.compare_sides.Goals as goal

pub write_telling-requires : goal.write_telling-requires
write_telling-requires c = let t = found_at c.args.sides.now.inputs (golden_at c.args.sides.now) (unit_at c.args.sides.now) c.search.new.queue c.search.result c.search.ensures _ _ c.in-Some.is in (c.search.auto.queue ∙ sym c.no_entries-queue.ensures, t.inside, t.falls)

pub returns-in-None : goal.returns-in-None
returns-in-None c = answers_nowhere c.args.sides.now.inputs (golden_at c.args.sides.now) (unit_at c.args.sides.now) c.search.new.queue c.search.result c.search.ensures _ c.in-None.is

pub returns-in-Some : goal.returns-in-Some
returns-in-Some c = answers_at c.args.sides.now.inputs (golden_at c.args.sides.now) (unit_at c.args.sides.now) c.search.new.queue c.search.result c.search.ensures _ _ _ _ _ c.in-Some.is c.write_telling.ensures
