use Rattle.reader_steps.proofs.Laws.{cut}
use Rattle.reader_parts.specs.Numbers.{sizes}
use Rattle.reader_parts.proofs.Parts.{the_expected, the_number, sizes_read_lem}
use Rattle.reader_parts.proofs.machine.sizes_at.Goals as goal

pub returns-in_err-first : goal.returns-in_err-first
unfolding sizes
returns-in_err-first c = cut _ _ _ _ _ _ c.from_residual.ensures.1 c.in_err-first.ensures

pub returns-in_err-inputs : goal.returns-in_err-inputs
unfolding sizes
returns-in_err-inputs c = let x = the_expected _ _ _ _ tt _ c.in_ok-first.ensures in
    rw x.1 (cut _ _ _ _ _ _ c.from_residual-in_err-inputs.ensures.1 c.in_err-inputs.ensures)

pub returns-in_err-states : goal.returns-in_err-states
unfolding sizes
returns-in_err-states c = let x = the_expected _ _ _ _ tt _ c.in_ok-first.ensures in
    rw (x.1, the_number _ _ _ _ _ c.in_ok-inputs.ensures) (cut _ _ _ _ _ _ c.from_residual-in_err-states.ensures.1 c.in_err-states.ensures)

pub returns : goal.returns
returns c = sizes_read_lem _ _ _ _ _ _ _ _ c.in_ok-first.ensures c.in_ok-inputs.ensures c.in_ok-states.ensures
