use native.Mathlib.Omega.{arith}
use mathlib.Core.Path.{sym, ◌∙◌}
use Rattle.trie_filing.proofs.Filling.{words_room}
use Rattle.trie_filing.proofs.Once.{firsts_few}
use Rattle.checker_enough.proofs.search_in.Goals as goal

pub put_words-requires-clause-words_at : goal.put_words-requires-clause-words_at
put_words-requires-clause-words_at c = c.requires.begun.lent.stands.separating

pub put_words-requires-clause-count_in_bounds : goal.put_words-requires-clause-count_in_bounds
put_words-requires-clause-count_in_bounds c = words_room _ _ _ _ _ c.requires.begun.lent.stands.separating c.requires.begun.lent.stands.size c.requires.label_len.0

pub put_words-requires-clause-first_len : goal.put_words-requires-clause-first_len
put_words-requires-clause-first_len c = (c.requires.label_len.1 ∙ sym c.requires.label_len.0, c.requires.label_len.2 ∙ sym c.requires.label_len.0)

pub find_firsts-n-requires-clause-words_at : goal.find_firsts-n-requires-clause-words_at
find_firsts-n-requires-clause-words_at c = c.requires.begun.lent.stands.separating

pub find_firsts-n-requires-clause-bytes_len_bound : goal.find_firsts-n-requires-clause-bytes_len_bound
find_firsts-n-requires-clause-bytes_len_bound c = c.requires.begun.lent.stands.size

pub find_firsts-n-requires-clause-holds : goal.find_firsts-n-requires-clause-holds
find_firsts-n-requires-clause-holds c = c.put_words.ensures

pub find_firsts-n-requires-clause-marks_len : goal.find_firsts-n-requires-clause-marks_len
find_firsts-n-requires-clause-marks_len c = c.requires.marks_len.0 ∙ sym (c.put_words.auto.label ∙ c.requires.label_len.0)

pub find_firsts-n-requires-clause-count_in_bounds : goal.find_firsts-n-requires-clause-count_in_bounds
find_firsts-n-requires-clause-count_in_bounds c = (omega (arith, c.requires.begun.lent.stands.separating_inside, c.requires.begun.lent.stands.size, c.requires.marks_len.3), omega (arith, c.requires.begun.lent.stands.separating_inside, c.requires.begun.lent.stands.size, c.requires.marks_len.4))

pub put_words-requires-2-clause-words_at : goal.put_words-requires-2-clause-words_at
put_words-requires-2-clause-words_at c = c.requires.begun.lent.stands.tests

pub put_words-requires-2-clause-count_in_bounds : goal.put_words-requires-2-clause-count_in_bounds
put_words-requires-2-clause-count_in_bounds c = words_room _ _ _ _ _ c.requires.begun.lent.stands.tests c.requires.begun.lent.stands.size (c.put_words.auto.label ∙ c.requires.label_len.0)

pub put_words-requires-2-clause-first_len : goal.put_words-requires-2-clause-first_len
put_words-requires-2-clause-first_len c = (c.put_words.auto.first ∙ c.requires.label_len.1 ∙ sym (c.put_words.auto.label ∙ c.requires.label_len.0), c.put_words.auto.next ∙ c.requires.label_len.2 ∙ sym (c.put_words.auto.label ∙ c.requires.label_len.0))

pub find_missing-requires : goal.find_missing-requires
find_missing-requires c = let few = firsts_few _ _ _ _ _ _ c.find_firsts-n.ensures in let long = (c.put_words-2.auto.label ∙ c.put_words.auto.label ∙ c.requires.label_len.0) in record { lent = c.requires.begun.lent; some_test = c.requires.begun.some_test; some_separator = c.requires.begun.some_separator; all_middles = c.requires.begun.all_middles; few_middles = c.requires.begun.few_middles; holds = c.put_words-2.ensures; no_marks = c.clear_marks.ensures; none_done = c.clear_marks-2.ensures; marks_long = c.clear_marks.auto.marks ∙ c.find_firsts-n.auto.marks ∙ c.requires.marks_len.0 ∙ sym long; done_long = c.clear_marks-2.auto.marks ∙ c.requires.marks_len.1 ∙ sym long; kept_long = c.requires.marks_len.2; once = c.find_firsts-n.ensures; numbers_long = omega (arith, few, c.requires.begun.lent.stands.separating_inside, c.requires.begun.lent.stands.size, c.find_firsts-n.auto.numbers, c.requires.marks_len.3); places_long = omega (arith, few, c.requires.begun.lent.stands.separating_inside, c.requires.begun.lent.stands.size, c.find_firsts-n.auto.places, c.requires.marks_len.4) }

pub returns : goal.returns
returns c = c.find_missing.ensures
