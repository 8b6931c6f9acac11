use Rattle.reader_steps.proofs.Laws.{cut}
use Rattle.reader.specs.Chains.{unit_places, unit_from_table}
use Rattle.reader.proofs.Joined.{after_unit-sizes, after_unit-table}
use Rattle.reader.proofs.unit.unit_at.Goals as goal

pub returns-in_err-sizes : goal.returns-in_err-sizes
unfolding unit_places
returns-in_err-sizes c = cut _ _ _ _ _ _ c.from_residual.ensures.1 c.in_err-sizes.ensures

pub returns-in_err-end : goal.returns-in_err-end
unfolding unit_from_table
returns-in_err-end c =
    after_unit-sizes _ _ _ c.in_ok-sizes.ensures (cut _ _ _ _ _ _ c.from_residual-in_err-end.ensures.1 c.in_err-end.ensures)

pub returns : goal.returns
returns c =
    after_unit-sizes _ _ _ c.in_ok-sizes.ensures (after_unit-table _ _ _ _ _ c.in_ok-end.ensures c.ending_at.ensures)
