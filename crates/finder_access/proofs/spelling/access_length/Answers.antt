use native.Mathlib.Omega.{arith}
use Rattle.finder_access.proofs.Backwards.{place_small, place_spelt, place_length}
use Rattle.finder_access.proofs.spelling.access_length.Goals as goal

pub place_of-requires : goal.place_of-requires
place_of-requires c = omega (arith, c.requires.0.reaches.marks.table, c.requires.1)

pub word_length-requires : goal.word_length-requires
word_length-requires c = (c.requires.0.reaches.room, place_small c.requires.0.reaches c.args.state.0 _ c.requires.1 c.place_of.ensures, (place_spelt c.requires.0.reaches c.args.state.0 _ c.requires.1 c.place_of.ensures).falls)

pub returns : goal.returns
returns c = (λ u r. place_length r c.args.state.0 c.place_of.result c.requires.1 c.place_of.ensures _ c.word_length.ensures.0, omega (arith, c.word_length.ensures.1, place_small c.requires.0.reaches c.args.state.0 _ c.requires.1 c.place_of.ensures))
