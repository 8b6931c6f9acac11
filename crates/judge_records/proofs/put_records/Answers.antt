use native.Mathlib.Omega.{arith}
use Rattle.judge_records.proofs.Standing.{record_whole}
use Rattle.judge_records.proofs.Filing.{filing_begin, filing_counted, filing_old, filing_next, filing_full, filing_end, at_not_nothing}
use Rattle.judge_records.proofs.put_records.Goals as goal

pub start-nodes-requires-clause-label_nonzero : goal.start-nodes-requires-clause-label_nonzero
start-nodes-requires-clause-label_nonzero c = (omega (arith, c.requires.count_in_bounds.0), c.requires.count_in_bounds.1)

pub start-nodes-requires-clause-first_len : goal.start-nodes-requires-clause-first_len
start-nodes-requires-clause-first_len c = (c.requires.first_len.0, c.requires.first_len.1)

pub loop-i-init : goal.loop-i-init
loop-i-init c = filing_begin _ _ _ _ _ _ _ _ _ c.requires.records_at.0 c.requires.records_at.1 c.start-nodes.ensures.1 c.start-nodes.ensures.0 c.clear_values.ensures

pub put_record-requires-clause-whole : goal.put_record-requires-clause-whole
put_record-requires-clause-whole c = ((record_whole _ _ _ _ _ _ c.loop-i.invariant.left c.loop-i-test.true).0.inside, c.requires.records_at.2)

pub put_record-requires-clause-counted : goal.put_record-requires-clause-counted
put_record-requires-clause-counted c = filing_counted c.loop-i.invariant

pub returns-in-Old-clause-value : goal.returns-in-Old-clause-value
returns-in-Old-clause-value c = filing_old _ _ _ _ _ _ _ _ _ _ _ c.loop-i.invariant c.loop-i-test.true _ _ _ _ _ c.put_record.ensures c.in-Old.is

pub returns-in-Old-clause-filed : goal.returns-in-Old-clause-filed
returns-in-Old-clause-filed c = λ e. at_not_nothing e

pub returns-in-Full : goal.returns-in-Full
returns-in-Full c = filing_full _ _ _ _ _ _ _ _ _ _ _ c.loop-i.invariant c.loop-i-test.true _ _ _ _ _ c.put_record.ensures (omega (arith, c.requires.count_in_bounds.0, c.put_record.auto.label, c.loop-i.auto.label, c.start-nodes.auto.label)) c.in-Full.is

pub record_end-at-requires : goal.record_end-at-requires
record_end-at-requires c = (record_whole _ _ _ _ _ _ c.loop-i.invariant.left c.loop-i-test.true).1

pub loop-i-preserved : goal.loop-i-preserved
loop-i-preserved c = filing_next _ _ _ _ _ _ _ _ _ _ _ c.loop-i.invariant c.loop-i-test.true _ _ _ _ _ c.put_record.ensures _ _ c.record_end-at.ensures c.in-New.is

pub returns-clause-value : goal.returns-clause-value
returns-clause-value c = let done = filing_end _ _ _ _ _ _ _ _ _ _ _ c.loop-i.invariant c.loop-i-test.false (omega (arith, c.loop-i.auto.value, c.clear_values.auto.value, c.requires.first_len.2, c.loop-i.auto.label, c.start-nodes.auto.label)) in done.0

pub returns-clause-filed : goal.returns-clause-filed
returns-clause-filed c = let done = filing_end _ _ _ _ _ _ _ _ _ _ _ c.loop-i.invariant c.loop-i-test.false (omega (arith, c.loop-i.auto.value, c.clear_values.auto.value, c.requires.first_len.2, c.loop-i.auto.label, c.start-nodes.auto.label)) in λ e. done.1
