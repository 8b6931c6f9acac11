use native.Mathlib.Omega.{arith}
use mathlib.Core.Path.{sym, ◌∙◌}
use Rattle.judge_pairing.proofs.Pairs.{records_room, pair_repeated, pair_unrepeated, refused_not_fine}
use Rattle.judge_pairing.proofs.pair.Goals as goal

pub put_records-repeated-requires-clause-records_at : goal.put_records-repeated-requires-clause-records_at
put_records-repeated-requires-clause-records_at c = (c.requires.words_at.1.records, omega (arith, c.requires.words_at.1.start), c.requires.words_at.1.size)

pub put_records-repeated-requires-clause-count_in_bounds : goal.put_records-repeated-requires-clause-count_in_bounds
put_records-repeated-requires-clause-count_in_bounds c = records_room _ _ _ _ _ c.requires.words_at.1.records c.requires.words_at.1.start c.requires.words_at.1.size c.requires.label_len.0

pub put_records-repeated-requires-clause-first_len : goal.put_records-repeated-requires-clause-first_len
put_records-repeated-requires-clause-first_len c = (c.requires.label_len.1 ∙ sym c.requires.label_len.0, c.requires.label_len.2 ∙ sym c.requires.label_len.0, c.requires.label_len.3 ∙ sym c.requires.label_len.0)

pub find_unpaired-requires-clause-words_at : goal.find_unpaired-requires-clause-words_at
find_unpaired-requires-clause-words_at c = c.requires.words_at

pub find_unpaired-requires-clause-filed : goal.find_unpaired-requires-clause-filed
find_unpaired-requires-clause-filed c = c.put_records-repeated.ensures.filed c.in_default.is

pub find_unpaired-requires-clause-marks_len : goal.find_unpaired-requires-clause-marks_len
find_unpaired-requires-clause-marks_len c = c.requires.label_len.4 ∙ sym (c.put_records-repeated.auto.label ∙ c.requires.label_len.0)

pub returns-in-Some-clause-value : goal.returns-in-Some-clause-value
returns-in-Some-clause-value c = pair_repeated _ _ _ c.put_records-repeated.ensures.value _ c.in-Some.is

pub returns-in-Some-clause-filed : goal.returns-in-Some-clause-filed
returns-in-Some-clause-filed c = λ e. refused_not_fine e

pub returns-clause-value : goal.returns-clause-value
returns-clause-value c = pair_unrepeated _ _ _ c.put_records-repeated.ensures.value c.in_default.is _ c.find_unpaired.ensures

pub returns-clause-filed : goal.returns-clause-filed
returns-clause-filed c = λ e. c.put_records-repeated.ensures.filed c.in_default.is
