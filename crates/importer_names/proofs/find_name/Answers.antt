use native.Mathlib.Omega.{arith}
use Rattle.importer_names.proofs.Table.{slot_in, others_none, others_next, found_place, none_place}
use Rattle.importer_names.proofs.find_name.Goals as goal

pub loop-j-init : goal.loop-j-init
loop-j-init c = others_none _ _ _

pub is_named-requires-clause-slot_in : goal.is_named-requires-clause-slot_in
is_named-requires-clause-slot_in c = slot_in c.requires.slots_in _ c.loop-j-test.true

pub returns-then-is_named : goal.returns-then-is_named
returns-then-is_named c = (found_place _ _ _ _ c.loop-j.invariant _ c.is_named.ensures c.if-is_named.true _ c.loop-j-test.true, omega (arith, c.loop-j-test.true))

pub loop-j-preserved : goal.loop-j-preserved
loop-j-preserved c = others_next _ _ _ _ c.loop-j.invariant _ c.is_named.ensures c.if-is_named.false

pub returns : goal.returns
returns c = (none_place _ _ _ _ _ c.loop-j.invariant (omega arith), omega arith)
