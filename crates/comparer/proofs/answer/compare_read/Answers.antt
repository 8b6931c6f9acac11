use Rattle.comparer.proofs.Answering.{other_inputs, first_answers}
use Rattle.comparer.proofs.answer.compare_read.Goals as goal

pub returns-then-inputs-y : goal.returns-then-inputs-y
returns-then-inputs-y c = other_inputs c.args.dossier.now c.args.unit.now c.args.x c.args.y c.requires c.args.out.now c.if-inputs-y.true

pub returns : goal.returns
returns c = first_answers c.args.dossier.now c.args.unit.now c.args.x c.args.y c.requires c.if-inputs-y.false c.args.out.now _ c.compare_sides.result c.compare_sides.ensures
