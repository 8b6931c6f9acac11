use Rattle.bureau_lines.proofs.Told.{fits_told, equal_told, uncompared_told, telling, telling_spelled, differs_told}
use Rattle.rules.specs.Answers.{compare_says}
use Rattle.theory.proofs.Bounds.{compare_fits}
use borrow.Author.Rules.{rules}
use Rattle.bureau_lines.proofs.compare_line.Goals as goal

pub word_line-requires : goal.word_line-requires
word_line-requires c = let (short, valid) = telling_spelled _ _ _ _ _ c.compare.ensures c.telling_room-room.ensures _ (telling _ _ _ _ _ c.compare.ensures c.telling_room-room.ensures _ c.in-Differs.is) in (search rules, short, valid)

pub refused_line-requires : goal.refused_line-requires
refused_line-requires c = fits_told c.in-Refused.is compare_says (compare_fits _ _ _ c.compare.result _ c.compare.ensures)

pub returns-in-Equal : goal.returns-in-Equal
returns-in-Equal c = rw (← (equal_told _ _ _ _ _ c.compare.ensures c.telling_room-room.ensures c.in-Equal.is)) c.plain_line.ensures

pub returns-in-Differs : goal.returns-in-Differs
returns-in-Differs c = rw (← (differs_told _ _ _ _ _ c.compare.ensures c.telling_room-room.ensures _ (telling _ _ _ _ _ c.compare.ensures c.telling_room-room.ensures _ c.in-Differs.is))) c.word_line.ensures

pub returns-in-Refused : goal.returns-in-Refused
returns-in-Refused c = rw (← (uncompared_told _ _ _ _ _ c.compare.ensures c.telling_room-room.ensures _ c.in-Refused.is)) c.refused_line.ensures
