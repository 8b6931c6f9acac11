use Rattle.judge_records.proofs.Standing.{words_begin, word_whole, words_next, word_scan_begin}
use Rattle.judge_records.proofs.Looking.{record_none, record_some}
use Rattle.judge_pairing.proofs.Pairs.{absent-found, absent_next, absent_end}
use Rattle.judge_pairing.proofs.find_absent.Goals as goal

pub loop-i-init : goal.loop-i-init
loop-i-init c = (words_begin _ _ _ _ c.requires.words_at, λ s k rs x. word_scan_begin _ _ _ _)

pub record_of-requires-clause-whole : goal.record_of-requires-clause-whole
record_of-requires-clause-whole c = (word_whole _ _ _ _ _ _ c.loop-i.invariant.0 c.loop-i-test.true).inside

pub record_of-requires-clause-node : goal.record_of-requires-clause-node
record_of-requires-clause-node c = c.requires.node

pub record_of-requires-clause-value_len : goal.record_of-requires-clause-value_len
record_of-requires-clause-value_len c = c.requires.value_len

pub returns-then-record_of-eq0 : goal.returns-then-record_of-eq0
returns-then-record_of-eq0 c = λ s k rs x. absent-found _ _ _ _ _ _ rs c.loop-i.invariant.0 c.loop-i-test.true (c.loop-i.invariant.1 s k rs x) (record_none _ _ _ _ _ _ c.record_of.ensures s k rs x c.if-record_of-eq0.true)

pub word_end-word-requires : goal.word_end-word-requires
word_end-word-requires c = (word_whole _ _ _ _ _ _ c.loop-i.invariant.0 c.loop-i-test.true).inside

pub loop-i-preserved : goal.loop-i-preserved
loop-i-preserved c = (words_next _ _ _ _ _ _ c.loop-i.invariant.0 c.loop-i-test.true _ c.word_end-word.ensures.0, λ s k rs x. absent_next _ _ _ _ _ _ rs c.loop-i.invariant.0 c.loop-i-test.true (c.loop-i.invariant.1 s k rs x) (record_some _ _ _ _ _ _ c.record_of.ensures s k rs x c.if-record_of-eq0.false) _ c.word_end-word.ensures.0)

pub returns : goal.returns
returns c = λ s k rs x. absent_end _ _ c.args.inputs _ _ _ rs c.loop-i-test.false (c.loop-i.invariant.1 s k rs x)
