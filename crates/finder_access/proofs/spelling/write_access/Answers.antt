use mathlib.Core.Path.{◌∙◌}
use native.Mathlib.Omega.{arith}
use lib.ListN.{length-set}
use Rattle.finder_access.proofs.Backwards.{place_fits, place_small, place_spelt, place_length, place_depth, place_written}
use Rattle.finder_access.proofs.spelling.write_access.Goals as goal

pub place_of-place-requires : goal.place_of-place-requires
place_of-place-requires c = omega (arith, c.requires.reaches.marks.table, c.requires.state)

pub word_length-len-requires : goal.word_length-len-requires
word_length-len-requires c = (c.requires.reaches.room, place_small c.requires.reaches c.args.state.0 _ c.requires.state c.place_of-place.ensures, (place_spelt c.requires.reaches c.args.state.0 _ c.requires.state c.place_of-place.ensures).falls)

pub overflow_cast-out : goal.overflow_cast-out
overflow_cast-out c = omega (arith, c.word_length-len.ensures.1, place_small c.requires.reaches c.args.state.0 _ c.requires.state c.place_of-place.ensures)

pub bounds-out-at : goal.bounds-out-at
bounds-out-at c = omega (arith, place_fits c.requires _ c.place_of-place.ensures _ c.word_length-len.ensures.0)

pub overflow_add-at : goal.overflow_add-at
overflow_add-at c = omega (arith, place_fits c.requires _ c.place_of-place.ensures _ c.word_length-len.ensures.0)

pub write_word-requires-clause-queue_len : goal.write_word-requires-clause-queue_len
write_word-requires-clause-queue_len c = (c.requires.reaches.room, place_small c.requires.reaches c.args.state.0 _ c.requires.state c.place_of-place.ensures, place_depth c.requires.reaches c.args.state.0 _ c.requires.state c.place_of-place.ensures _ c.word_length-len.ensures.0)

pub write_word-requires-clause-len_in_bounds : goal.write_word-requires-clause-len_in_bounds
write_word-requires-clause-len_in_bounds c = simp length-set (place_fits c.requires _ c.place_of-place.ensures _ c.word_length-len.ensures.0)

pub overflow_add-result : goal.overflow_add-result
overflow_add-result c = omega (arith, place_fits c.requires _ c.place_of-place.ensures _ c.word_length-len.ensures.0)

pub overflow_add-result-2 : goal.overflow_add-result-2
overflow_add-result-2 c = omega (arith, place_fits c.requires _ c.place_of-place.ensures _ c.word_length-len.ensures.0)

pub shape_of-out : goal.shape_of-out
shape_of-out c = c.write_word.auto.out ∙ length-set c.args.out.now c.args.at _

pub returns : goal.returns
returns c = λ u r. place_written r c.args.state.0 _ c.requires.state c.place_of-place.ensures _ c.args.at _ _ (place_length r c.args.state.0 _ c.requires.state c.place_of-place.ensures _ c.word_length-len.ensures.0) c.write_word.ensures
