use Rattle.finder_separators.proofs.Keeping.{spelt_text, kept_separators}
use Rattle.finder_separators.proofs.kept.find_separators.Goals as goal

pub find_kept-distinct-requires-clause-text_at : goal.find_kept-distinct-requires-clause-text_at
find_kept-distinct-requires-clause-text_at c = spelt_text c.args.unit.now.bytes.now c.args.unit.now.shape c.args.distances.now _ _ c.spell_words-count.ensures

pub find_kept-distinct-requires-clause-places_len : goal.find_kept-distinct-requires-clause-places_len
find_kept-distinct-requires-clause-places_len c = c.requires.text_len.1

pub returns : goal.returns
returns c = kept_separators c.args.unit.now.bytes.now c.args.unit.now.shape c.args.distances.now _ _ c.spell_words-count.ensures _ _ c.find_kept-distinct.ensures
