use Prim.Native.Nat.{◌+◌}
use Rattle.importer_terms.proofs.Entering.{new_without, new_there, new_is, put_new, put_old}
use native.Mathlib.Omega.{arith}
use Rattle.importer_terms.proofs.entries.put_entry.Goals as goal

pub returns-then-nexts-place-eq0-clause-nexts_after : goal.returns-then-nexts-place-eq0-clause-nexts_after
returns-then-nexts-place-eq0-clause-nexts_after c = let new = new_is c.args.text.now c.args.term c.args.nexts.now _ _ c.cube_has.ensures c.if-cube_has.true _ c.entry_place-place.ensures.0 (omega (arith, c.if-nexts-place-eq0.true)) in put_new c.args.nexts.now _ _ _ (c.args.term.next + 1) new c.entry_place-place.ensures.0

pub returns-then-nexts-place-eq0-clause-outputs_after : goal.returns-then-nexts-place-eq0-clause-outputs_after
returns-then-nexts-place-eq0-clause-outputs_after c = let new = new_is c.args.text.now c.args.term c.args.nexts.now _ _ c.cube_has.ensures c.if-cube_has.true _ c.entry_place-place.ensures.0 (omega (arith, c.if-nexts-place-eq0.true)) in put_new c.args.outputs.now _ _ _ c.args.term.output new c.entry_place-place.ensures.0

pub returns-else-nexts-place-eq0-clause-nexts_after : goal.returns-else-nexts-place-eq0-clause-nexts_after
returns-else-nexts-place-eq0-clause-nexts_after c = let old = new_there c.args.text.now c.args.term c.args.nexts.now _ _ c.cube_has.ensures c.if-cube_has.true _ c.entry_place-place.ensures.0 (λ e. omega (arith, c.if-nexts-place-eq0.false)) in put_old _ _ _ old

pub returns-else-nexts-place-eq0-clause-outputs_after : goal.returns-else-nexts-place-eq0-clause-outputs_after
returns-else-nexts-place-eq0-clause-outputs_after c = let old = new_there c.args.text.now c.args.term c.args.nexts.now _ _ c.cube_has.ensures c.if-cube_has.true _ c.entry_place-place.ensures.0 (λ e. omega (arith, c.if-nexts-place-eq0.false)) in put_old _ _ _ old

pub returns-else-cube_has-clause-nexts_after : goal.returns-else-cube_has-clause-nexts_after
returns-else-cube_has-clause-nexts_after c = let old = new_without c.args.text.now c.args.term c.args.nexts.now _ _ c.cube_has.ensures c.if-cube_has.false in put_old _ _ _ old

pub returns-else-cube_has-clause-outputs_after : goal.returns-else-cube_has-clause-outputs_after
returns-else-cube_has-clause-outputs_after c = let old = new_without c.args.text.now c.args.term c.args.nexts.now _ _ c.cube_has.ensures c.if-cube_has.false in put_old _ _ _ old
