use native.Mathlib.Omega.{arith}
use Rattle.importer_unit.proofs.Silences.{row_start, row_next, row_found, row_end}
use Rattle.importer_unit.proofs.silence.empty_in_row.Goals as goal

pub loop-i-init : goal.loop-i-init
loop-i-init c = row_start _ _ _ (omega arith)

pub entry_place-requires : goal.entry_place-requires
entry_place-requires c = (c.requires.1, omega (arith, c.numbered-input.ensures, c.loop-i-test.true, c.requires.2))

pub returns-then-nexts-entry_place-eq0 : goal.returns-then-nexts-entry_place-eq0
returns-then-nexts-entry_place-eq0 c = row_found _ _ _ c.loop-i.invariant _ _ c.entry_place.ensures.0 (omega (arith, c.numbered-input.ensures)) _ _ (omega (arith, c.loop-i-test.true)) c.numbered-input.ensures (omega (arith, c.if-nexts-entry_place-eq0.true))

pub loop-i-preserved : goal.loop-i-preserved
loop-i-preserved c = row_next _ _ _ c.loop-i.invariant _ _ c.entry_place.ensures.0 (omega (arith, c.numbered-input.ensures)) (λ e. omega (arith, c.if-nexts-entry_place-eq0.false)) _ (omega arith)

pub returns : goal.returns
returns c = row_end _ _ _ _ c.loop-i.invariant (omega (arith, c.loop-i-test.false))
