use native.Mathlib.Omega.{arith}
use Rattle.finder.proofs.Laying.{size_small, fitting, no_room_answer, written_answer}
use Rattle.finder.proofs.answer.find_room.Goals as goal

pub overflow_add-size-3 : goal.overflow_add-size-3
overflow_add-size-3 c = omega (arith, size_small c.requires _ _ c.measure_cover-cover.ensures.0 c.separators_size-separating.ensures)

pub returns-then-out-size : goal.returns-then-out-size
returns-then-out-size c = no_room_answer c.requires _ _ c.measure_cover-cover.ensures.0 c.separators_size-separating.ensures _ c.if-out-size.true

pub write_draft-requires : goal.write_draft-requires
write_draft-requires c = fitting c.requires _ _ c.measure_cover-cover.ensures.0 c.separators_size-separating.ensures _ c.if-out-size.false

pub returns : goal.returns
returns c = written_answer c.requires _ _ c.measure_cover-cover.ensures.0 c.separators_size-separating.ensures _ _ c.if-out-size.false c.write_draft.ensures
