use native.Mathlib.Omega.{arith}
use Rattle.trie.specs.Values.{insert_below}
use Rattle.judge_records.proofs.Filing.{counted_root, put_old, put_new, put_full}
use Rattle.judge_records.proofs.put_record.Goals as goal

pub put_word-requires-clause-whole : goal.put_word-requires-clause-whole
put_word-requires-clause-whole c = c.requires.whole.0

pub put_word-requires-clause-counted : goal.put_word-requires-clause-counted
put_word-requires-clause-counted c = counted_root c.requires.counted

pub noted-requires : goal.noted-requires
noted-requires c = let done = c.put_word.ensures _ c.requires.counted.holds c.requires.counted.counted in
    omega (arith, (insert_below _ _ _ _ _ _ _ _ c.requires.counted.holds.proper done c.in-Some.is).0, c.put_word.auto.label, c.requires.value_len)

pub returns-then-noted-ne0 : goal.returns-then-noted-ne0
returns-then-noted-ne0 c = λ t m h noted e. put_old t m _ _ _ _ _ _ _ _ _ h noted (c.put_word.ensures t h e) _ _ c.in-Some.is _ c.noted.ensures c.args.place c.if-noted-ne0.true

pub note-requires : goal.note-requires
note-requires c = let done = c.put_word.ensures _ c.requires.counted.holds c.requires.counted.counted in
    omega (arith, (insert_below _ _ _ _ _ _ _ _ c.requires.counted.holds.proper done c.in-Some.is).0, c.put_word.auto.label, c.requires.value_len)

pub returns : goal.returns
returns c = λ t m h noted e. put_new t m _ _ _ _ _ _ _ _ _ h noted (c.put_word.ensures t h e) _ _ c.in-Some.is _ c.noted.ensures _ _ c.if-noted-ne0.false c.note.ensures

pub returns-in_default : goal.returns-in_default
returns-in_default c = λ t m h noted e. put_full t m _ _ _ _ _ _ _ _ _ h noted (c.put_word.ensures t h e) c.args.place c.in_default.is
