use native.Mathlib.Omega.{arith}
use Rattle.trie_filing.proofs.Filling.{filling_begin, filling_inside, filling_counted, filling_next, filling_full, filling_end}
use Rattle.trie_filing.proofs.fill.put_words.Goals as goal

pub loop-init : goal.loop-init
loop-init c = filling_begin c.args.bytes.now c.args.place c.args.inputs c.args.count _ _ _ _ c.requires.words_at c.start-nodes.ensures.1 c.start-nodes.ensures.0

pub put_word-requires-clause-whole : goal.put_word-requires-clause-whole
put_word-requires-clause-whole c = filling_inside c.args.bytes.now c.args.place c.args.inputs c.args.count _ _ _ _ _ _ c.loop.invariant c.loop-test.true

pub put_word-requires-clause-counted : goal.put_word-requires-clause-counted
put_word-requires-clause-counted c = filling_counted c.loop.invariant.1

pub returns-in_default : goal.returns-in_default
returns-in_default c = filling_full c.args.bytes.now c.args.place c.args.inputs c.args.count _ _ _ _ _ _ c.loop.invariant c.loop-test.true c.put_word.new.label c.put_word.new.first c.put_word.new.next _ c.put_word.ensures (omega (arith, c.requires.count_in_bounds.0, c.put_word.auto.label, c.loop.auto.label, c.start-nodes.auto.label)) c.in_default.is

pub word_end-word-requires : goal.word_end-word-requires
word_end-word-requires c = filling_inside c.args.bytes.now c.args.place c.args.inputs c.args.count _ _ _ _ _ _ c.loop.invariant c.loop-test.true

pub loop-preserved : goal.loop-preserved
loop-preserved c = rw c.word_end-word.ensures.0 (filling_next c.args.bytes.now c.args.place c.args.inputs c.args.count _ _ _ _ _ _ c.loop.invariant c.loop-test.true _ _ _ _ c.put_word.ensures _ _ c.in-Some.is)

pub returns : goal.returns
returns c = filling_end c.args.bytes.now c.args.place c.args.inputs c.args.count _ _ _ _ _ _ c.loop.invariant c.loop-test.false
