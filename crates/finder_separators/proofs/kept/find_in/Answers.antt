use Rattle.finder_separators.proofs.Keeping.{kept_at}
use native.Mathlib.Omega.{arith}
use mathlib.Core.Path.{sym, ◌∙◌}
use Rattle.finder_separators.proofs.kept.find_in.Goals as goal

pub put_words-requires-clause-words_at : goal.put_words-requires-clause-words_at
put_words-requires-clause-words_at c = c.requires.text_at.stand

pub put_words-requires-clause-count_in_bounds : goal.put_words-requires-clause-count_in_bounds
put_words-requires-clause-count_in_bounds c = (omega (arith, c.requires.text_at.inputs, c.requires.label_len.0), omega (arith, c.requires.label_len.0))

pub put_words-requires-clause-first_len : goal.put_words-requires-clause-first_len
put_words-requires-clause-first_len c = (c.requires.label_len.1 ∙ sym c.requires.label_len.0, c.requires.label_len.2 ∙ sym c.requires.label_len.0)

pub find_firsts-requires-clause-words_at : goal.find_firsts-requires-clause-words_at
find_firsts-requires-clause-words_at c = c.requires.text_at.stand

pub find_firsts-requires-clause-bytes_len_bound : goal.find_firsts-requires-clause-bytes_len_bound
find_firsts-requires-clause-bytes_len_bound c = omega (arith, c.requires.text_at.size)

pub find_firsts-requires-clause-holds : goal.find_firsts-requires-clause-holds
find_firsts-requires-clause-holds c = c.put_words.ensures

pub find_firsts-requires-clause-marks_len : goal.find_firsts-requires-clause-marks_len
find_firsts-requires-clause-marks_len c = c.requires.label_len.3 ∙ sym (c.put_words.auto.label ∙ c.requires.label_len.0)

pub find_firsts-requires-clause-count_in_bounds : goal.find_firsts-requires-clause-count_in_bounds
find_firsts-requires-clause-count_in_bounds c = (omega (arith, c.requires.text_at.few, c.requires.numbers_len.0), omega (arith, c.requires.text_at.few, c.requires.numbers_len.1))

pub returns : goal.returns
returns c = kept_at c.args.text.now c.args.inputs c.args.count _ _ _ c.requires.text_at (c.find_firsts.auto.places ∙ c.requires.numbers_len.1) c.find_firsts.ensures
