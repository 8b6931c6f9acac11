use mathlib.Core.Bool.{not}
use borrow.Author.Tests.{not-true, not-false}
use Rattle.judge_records.proofs.Standing.{records_begin, record_whole, records_next, record_scan_begin}
use Rattle.judge_pairing.proofs.Pairs.{foreign-found, foreign_next, foreign_end}
use Rattle.std.proofs.Common.{ap}
use Rattle.judge_pairing.proofs.foreign.find_foreign.Goals as goal

pub loop-i-init : goal.loop-i-init
loop-i-init c = (records_begin _ _ _ _ c.requires.records_at, λ tests x. record_scan_begin _ _ _ _)

pub is_test-requires-clause-whole : goal.is_test-requires-clause-whole
is_test-requires-clause-whole c = (record_whole _ _ _ _ _ _ c.loop-i.invariant.0 c.loop-i-test.true).0.inside

pub is_test-requires-clause-node : goal.is_test-requires-clause-node
is_test-requires-clause-node c = c.requires.node

pub is_test-requires-clause-marks_len : goal.is_test-requires-clause-marks_len
is_test-requires-clause-marks_len c = c.requires.marks_len

pub returns-then-not-is_test : goal.returns-then-not-is_test
returns-then-not-is_test c = λ tests x. foreign-found tests _ _ _ _ _ _ c.loop-i.invariant.0 c.loop-i-test.true _ (c.is_test.ensures tests _ x) (c.loop-i.invariant.1 tests x) (not-true _ (ap not c.if-not-is_test.true))

pub record_end-at-requires : goal.record_end-at-requires
record_end-at-requires c = (record_whole _ _ _ _ _ _ c.loop-i.invariant.0 c.loop-i-test.true).1

pub loop-i-preserved : goal.loop-i-preserved
loop-i-preserved c = (records_next _ _ _ _ _ _ c.loop-i.invariant.0 c.loop-i-test.true _ c.record_end-at.ensures, λ tests x. foreign_next tests _ _ _ _ _ _ c.loop-i.invariant.0 c.loop-i-test.true _ (c.is_test.ensures tests _ x) (c.loop-i.invariant.1 tests x) (not-false _ (ap not c.if-not-is_test.false)) _ c.record_end-at.ensures)

pub returns : goal.returns
returns c = λ tests x. foreign_end tests _ _ c.args.inputs _ _ _ c.loop-i-test.false (c.loop-i.invariant.1 tests x)
