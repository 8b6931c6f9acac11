use native.Mathlib.Omega.{arith}
use Rattle.judge.proofs.Examining.{part_inside, part_taken}
use Rattle.judge.proofs.answer.failing_word.Goals as goal

pub overflow_add-end : goal.overflow_add-end
overflow_add-end c = omega (arith, part_inside c.args.dossier.now c.args.sheet.now, c.failing_part-part.ensures)

pub slice_bounds-result-end : goal.slice_bounds-result-end
slice_bounds-result-end c = omega (arith, part_inside c.args.dossier.now c.args.sheet.now, c.failing_part-part.ensures)

pub returns : goal.returns
returns c = part_taken _ _ _ _ c.failing_part-part.ensures.0 c.failing_part-part.ensures.1
