use Rattle.reader.specs.Places.{machine_at}
use Rattle.judge_records.proofs.Standing.{words_begin, word_whole, words_next, word_scan_begin}
use Rattle.judge_verdict.proofs.Deviating.{served_word, place_first, place_after, deviating_found, deviating_next, deviating_end}
use Rattle.judge_verdict.proofs.find_deviating.Goals as goal

pub loop-i-init : goal.loop-i-init
loop-i-init c = (words_begin _ _ _ _ c.requires.table_at.1, place_first _ _, λ rs filed once. word_scan_begin _ _ _ _)

pub test_difference-requires-clause-whole : goal.test_difference-requires-clause-whole
test_difference-requires-clause-whole c = (word_whole _ _ _ _ _ _ c.loop-i.invariant.0 c.loop-i-test.true).inside

pub test_difference-requires-clause-answered : goal.test_difference-requires-clause-answered
test_difference-requires-clause-answered c = rw c.standing-golden.ensures.2 (served_word _ _ _ _ _ _ _ _ _ _ _ c.loop-i.invariant.0 c.loop-i-test.true c.requires.served)

pub returns-in-Some : goal.returns-in-Some
returns-in-Some c = λ rs filed once. deviating_found _ _ _ _ _ _ (machine_at c.args.dossier.now c.args.x.table c.args.x.inputs c.args.x.states) rs c.loop-i.invariant.0 c.loop-i-test.true (c.loop-i.invariant.2 rs filed once) _ (rw c.standing-golden.ensures.4 at (c.test_difference.ensures rs (rw c.standing-golden.ensures.2 filed) once)) _ c.in-Some.is c.loop-i.invariant.1

pub word_end-word-requires : goal.word_end-word-requires
word_end-word-requires c = (word_whole _ _ _ _ _ _ c.loop-i.invariant.0 c.loop-i-test.true).inside

pub loop-i-preserved : goal.loop-i-preserved
loop-i-preserved c = (words_next _ _ _ _ _ _ c.loop-i.invariant.0 c.loop-i-test.true _ c.word_end-word.ensures.0, place_after _ _ _ _ _ c.loop-i.invariant.1 c.word_end-word.ensures.0, λ rs filed once. deviating_next _ _ _ _ _ _ (machine_at c.args.dossier.now c.args.x.table c.args.x.inputs c.args.x.states) rs c.loop-i.invariant.0 c.loop-i-test.true (c.loop-i.invariant.2 rs filed once) _ (rw c.standing-golden.ensures.4 at (c.test_difference.ensures rs (rw c.standing-golden.ensures.2 filed) once)) c.in_default.is _ c.word_end-word.ensures.0)

pub returns : goal.returns
returns c = λ rs filed once. deviating_end _ _ c.args.x.inputs _ _ _ (machine_at c.args.dossier.now c.args.x.table c.args.x.inputs c.args.x.states) rs c.loop-i-test.false (c.loop-i.invariant.2 rs filed once)
