use Rattle.judge.proofs.Examining.{handed, examined_unread, examined_unchecked}
use Rattle.judge.proofs.answer.examine.Goals as goal

pub examine_both-requires : goal.examine_both-requires
examine_both-requires c = handed _ _ _ c.accept.ensures _ c.in-Ok.is _ c.read_sheet.ensures _ c.in-Ok-read_sheet.is

pub returns-in-Err-read_sheet : goal.returns-in-Err-read_sheet
returns-in-Err-read_sheet c = examined_unread _ _ _ c.accept.ensures _ c.in-Ok.is _ c.read_sheet.ensures _ c.in-Err-read_sheet.is

pub returns-in-Err : goal.returns-in-Err
returns-in-Err c = examined_unchecked _ _ _ c.accept.ensures _ c.in-Err.is
