use Rattle.bureau_sheets.proofs.Deviating.{refused_told, refused_fits}
use Rattle.judge.proofs.Examining.{handed, examined_unread, examined_unchecked}
use Rattle.bureau_sheets.proofs.judge_line.Goals as goal

pub examined_line-requires : goal.examined_line-requires
examined_line-requires c = handed _ _ _ c.accept.ensures _ c.in-Ok.is _ c.read_sheet.ensures _ c.in-Ok-read_sheet.is

pub refused_line-requires : goal.refused_line-requires
refused_line-requires c = refused_fits _ _ _ (examined_unread _ _ _ c.accept.ensures _ c.in-Ok.is _ c.read_sheet.ensures _ c.in-Err-read_sheet.is)

pub refused_line-requires-in-Err : goal.refused_line-requires-in-Err
refused_line-requires-in-Err c = refused_fits _ c.args.sheet.now _ (examined_unchecked _ _ _ c.accept.ensures _ c.in-Err.is)

pub returns-in-Err-read_sheet : goal.returns-in-Err-read_sheet
returns-in-Err-read_sheet c = rw (← (refused_told _ _ _ (examined_unread _ _ _ c.accept.ensures _ c.in-Ok.is _ c.read_sheet.ensures _ c.in-Err-read_sheet.is))) c.refused_line.ensures

pub returns-in-Err : goal.returns-in-Err
returns-in-Err c = rw (← (refused_told _ _ _ (examined_unchecked _ _ _ c.accept.ensures _ c.in-Err.is))) c.refused_line-in-Err.ensures
