use Rattle.finder_spelling.proofs.Rows.{word_room, word_spelt}
use lib.ListN.{length, length-set}
use native.Mathlib.Omega.{arith}
use mathlib.Core.Path.{◌∙◌}
use Rattle.finder_spelling.proofs.spell_pair.Goals as goal

pub bounds-text-at : goal.bounds-text-at
bounds-text-at c = (word_room c.args.unit.now.bytes.now c.args.unit.now.shape c.args.distances.now c.args.p.0 c.args.q.0 c.args.at (length c.args.text.now) c.requires.q_in_bounds).0

pub overflow_add-at : goal.overflow_add-at
overflow_add-at c = omega (arith, (word_room c.args.unit.now.bytes.now c.args.unit.now.shape c.args.distances.now c.args.p.0 c.args.q.0 c.args.at (length c.args.text.now) c.requires.q_in_bounds))

pub write_telling-requires-clause-distances_at : goal.write_telling-requires-clause-distances_at
write_telling-requires-clause-distances_at c = c.requires.distances_at

pub write_telling-requires-clause-p_lt_states : goal.write_telling-requires-clause-p_lt_states
write_telling-requires-clause-p_lt_states c = c.requires.p_lt_states

pub write_telling-requires-clause-q_in_bounds : goal.write_telling-requires-clause-q_in_bounds
write_telling-requires-clause-q_in_bounds c = simp length-set (word_room c.args.unit.now.bytes.now c.args.unit.now.shape c.args.distances.now c.args.p.0 c.args.q.0 c.args.at (length c.args.text.now) c.requires.q_in_bounds).1

pub shape_of-text : goal.shape_of-text
shape_of-text c = c.write_telling.auto.out ∙ length-set c.args.text.now c.args.at c.distance_at.result

pub returns : goal.returns
returns c = word_spelt c.args.unit.now.bytes.now c.args.unit.now.shape c.args.distances.now c.args.p.0 c.args.q.0 c.args.at c.args.text.now _ _ _ c.distance_at.ensures c.write_telling.ensures
