use native.Mathlib.Omega.{arith}
use mathlib.Core.Path.{refl, sym, ◌∙◌}
use Rattle.trie_filing.proofs.Filling.{words_room}
use Rattle.builder_grower.proofs.Covering.{grown_none, listed_firsts}
use Rattle.builder_grower.proofs.cover.grow_needed.Goals as goal

pub put_words-requires-clause-words_at : goal.put_words-requires-clause-words_at
put_words-requires-clause-words_at c = c.requires.lent.stands.separating

pub put_words-requires-clause-count_in_bounds : goal.put_words-requires-clause-count_in_bounds
put_words-requires-clause-count_in_bounds c = words_room _ _ _ _ _ c.requires.lent.stands.separating c.requires.lent.stands.size c.requires.label_len.0

pub put_words-requires-clause-first_len : goal.put_words-requires-clause-first_len
put_words-requires-clause-first_len c = (c.requires.label_len.1 ∙ sym c.requires.label_len.0, c.requires.label_len.2 ∙ sym c.requires.label_len.0)

pub find_firsts-n-requires-clause-words_at : goal.find_firsts-n-requires-clause-words_at
find_firsts-n-requires-clause-words_at c = c.requires.lent.stands.separating

pub find_firsts-n-requires-clause-bytes_len_bound : goal.find_firsts-n-requires-clause-bytes_len_bound
find_firsts-n-requires-clause-bytes_len_bound c = c.requires.lent.stands.size

pub find_firsts-n-requires-clause-holds : goal.find_firsts-n-requires-clause-holds
find_firsts-n-requires-clause-holds c = c.put_words.ensures

pub find_firsts-n-requires-clause-marks_len : goal.find_firsts-n-requires-clause-marks_len
find_firsts-n-requires-clause-marks_len c = c.requires.done_len.0 ∙ sym (c.put_words.auto.label ∙ c.requires.label_len.0)

pub find_firsts-n-requires-clause-count_in_bounds : goal.find_firsts-n-requires-clause-count_in_bounds
find_firsts-n-requires-clause-count_in_bounds c = (omega (arith, c.requires.lent.stands.separating_inside, c.requires.lent.stands.size, c.requires.done_len.1), omega (arith, c.requires.lent.stands.separating_inside, c.requires.lent.stands.size, c.requires.done_len.2))

pub start-requires-clause-label_nonzero : goal.start-requires-clause-label_nonzero
start-requires-clause-label_nonzero c = let long = c.put_words.auto.label ∙ c.requires.label_len.0 in (omega (arith, long), omega (arith, long))

pub start-requires-clause-first_len : goal.start-requires-clause-first_len
start-requires-clause-first_len c = let long = c.put_words.auto.label ∙ c.requires.label_len.0 in (c.put_words.auto.first ∙ c.requires.label_len.1 ∙ sym long, c.put_words.auto.next ∙ c.requires.label_len.2 ∙ sym long)

pub returns-then-n-eq0 : goal.returns-then-n-eq0
returns-then-n-eq0 c = λ held reads. grown_none _ _ c.requires.lent _ _ (listed_firsts _ _ _ _ _ c.find_firsts-n.new.places _ c.requires.lent.stands.separating (omega (arith, c.requires.lent.stands.separating_inside, c.requires.lent.stands.size, c.requires.done_len.2, c.find_firsts-n.auto.places)) c.find_firsts-n.ensures) _ refl held reads _ _ _ _ c.if-n-eq0.true c.start.ensures.1 c.start.ensures.0

pub grow_covers-requires-clause-lent : goal.grow_covers-requires-clause-lent
grow_covers-requires-clause-lent c = (c.requires.lent, omega (arith, c.if-n-eq0.false), listed_firsts _ _ _ _ _ c.find_firsts-n.new.places _ c.requires.lent.stands.separating (omega (arith, c.requires.lent.stands.separating_inside, c.requires.lent.stands.size, c.requires.done_len.2, c.find_firsts-n.auto.places)) c.find_firsts-n.ensures)

pub grow_covers-requires-clause-label_len : goal.grow_covers-requires-clause-label_len
grow_covers-requires-clause-label_len c = (c.put_words.auto.label ∙ c.requires.label_len.0, c.put_words.auto.first ∙ c.requires.label_len.1, c.put_words.auto.next ∙ c.requires.label_len.2, c.find_firsts-n.auto.marks ∙ c.requires.done_len.0)
