use Rattle.reader_steps.proofs.Laws.{cut}
use Rattle.reader.specs.Chains.{sheet_places, sheet_from_records}
use Rattle.reader.proofs.Joined.{after_count, after_records}
use Rattle.reader.proofs.sheet.sheet_at.Goals as goal

pub returns-in_err-count : goal.returns-in_err-count
unfolding sheet_places
returns-in_err-count c = cut _ _ _ _ _ _ c.from_residual.ensures.1 c.in_err-count.ensures

pub returns-in_err-end : goal.returns-in_err-end
unfolding sheet_from_records
returns-in_err-end c =
    after_count _ _ _ _ _ c.in_ok-count.ensures (cut _ _ _ _ _ _ c.from_residual-in_err-end.ensures.1 c.in_err-end.ensures)

pub returns : goal.returns
returns c =
    after_count _ _ _ _ _ c.in_ok-count.ensures (after_records _ _ _ _ _ _ c.in_ok-end.ensures c.ending_at.ensures)
