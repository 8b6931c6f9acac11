use native.Mathlib.Omega.{arith}
use mathlib.Core.Path.{◌∙◌}
use lib.ListN.{length-set}
use Rattle.comparer_pairs.specs.Queue.{word_to}
use Rattle.comparer.proofs.Backwards.{answers_no_room, answers_written}
use Rattle.comparer.proofs.spelling.write_telling.Goals as goal

pub returns-then-out-len : goal.returns-then-out-len
returns-then-out-len c = answers_no_room (word_to c.args.queue.now c.args.place) c.args.input.0 c.word_length-before.result c.args.out.now c.word_length-before.ensures.0 c.if-out-len.true

pub write_word-requires-clause-queue_len : goal.write_word-requires-clause-queue_len
write_word-requires-clause-queue_len c = c.requires

pub write_word-requires-clause-len_value : goal.write_word-requires-clause-len_value
write_word-requires-clause-len_value c = (c.word_length-before.ensures.0, simp length-set (omega (arith, c.if-out-len.false)))

pub shape_of-out : goal.shape_of-out
shape_of-out c = c.write_word.auto.out ∙ length-set c.args.out.now c.word_length-before.result c.number.result

pub returns : goal.returns
returns c = answers_written (word_to c.args.queue.now c.args.place) c.args.input.0 c.word_length-before.result c.args.out.now c.word_length-before.ensures.0 _ _ c.number.ensures (omega (arith, c.if-out-len.false)) c.write_word.ensures
