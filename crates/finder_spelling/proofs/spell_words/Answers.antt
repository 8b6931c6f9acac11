use Rattle.finder_spelling.proofs.Sized.{pairs_room, spelt_pairs, spelt_alone}
use native.Mathlib.Omega.{arith}
use Rattle.finder_spelling.proofs.spell_words.Goals as goal

pub returns-then-unit-eq1 : goal.returns-then-unit-eq1
returns-then-unit-eq1 c = spelt_alone c.args.unit.now.bytes.now c.args.unit.now.shape c.args.distances.now c.args.unit.now.stands c.requires.distances_at c.requires.all_told c.args.text.now (omega (arith, c.if-unit-eq1.true)) c.requires.text_len

pub spell_pairs-requires-clause-distances_at : goal.spell_pairs-requires-clause-distances_at
spell_pairs-requires-clause-distances_at c = c.requires.distances_at

pub spell_pairs-requires-clause-states_in_bounds : goal.spell_pairs-requires-clause-states_in_bounds
spell_pairs-requires-clause-states_in_bounds c = omega (arith, pairs_room c.args.unit.now.bytes.now c.args.unit.now.shape c.args.distances.now c.args.unit.now.stands c.requires.distances_at c.requires.all_told, c.requires.text_len)

pub returns : goal.returns
returns c = spelt_pairs c.args.unit.now.bytes.now c.args.unit.now.shape c.args.distances.now c.args.unit.now.stands c.requires.distances_at c.requires.all_told c.args.text.now _ _ c.if-unit-eq1.false c.requires.text_len c.spell_pairs.ensures
