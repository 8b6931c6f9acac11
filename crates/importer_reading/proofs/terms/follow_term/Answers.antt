use Rattle.importer_reading.proofs.OneTerm.{ready_in, term_bad, term_over, terms_over, entries_at, term_contradicts, term_goes}
use Rattle.importer_reading.proofs.terms.follow_term.Goals as goal

pub enter_term-requires-clause-term_in : goal.enter_term-requires-clause-term_in
enter_term-requires-clause-term_in c = ready_in c.name_term.ensures.ready c.in-Some.is

pub enter_term-requires-clause-nexts_len : goal.enter_term-requires-clause-nexts_len
enter_term-requires-clause-nexts_len c = c.requires.nexts_len

pub returns-then-enter_term : goal.returns-then-enter_term
returns-then-enter_term c = λ before held. let named = c.name_term.ensures.named_term_as before _ _ _ held in term_contradicts before _ _ _ _ _ _ held _ _ _ _ _ named _ _ _ c.in-Some.is _ _ _ (c.enter_term.ensures _ _ _ _ (entries_at before _ _ _ _ _ _ held _ _ _ _ _ named _ _ _ c.in-Some.is) (terms_over before _ _ _ _ _ _ held _ _ _ _ _ named _ _ _ c.in-Some.is) (term_over before _ _ _ _ _ _ held _ _ _ _ _ named _ _ _ c.in-Some.is)) c.if-enter_term.true _

pub give_rank-requires : goal.give_rank-requires
give_rank-requires c = (c.requires.ranks_len.0, (ready_in c.name_term.ensures.ready c.in-Some.is).current, c.requires.ranks_len.1)

pub returns-in_default : goal.returns-in_default
returns-in_default c = λ before held. term_bad before _ _ _ _ _ _ held _ _ _ _ _ (c.name_term.ensures.named_term_as before _ _ _ held) c.in_default.is _ _ _

pub returns : goal.returns
returns c = λ before held. let named = c.name_term.ensures.named_term_as before _ _ _ held in term_goes before _ _ _ _ _ _ held _ _ _ _ _ named _ _ _ c.in-Some.is _ _ _ (c.enter_term.ensures _ _ _ _ (entries_at before _ _ _ _ _ _ held _ _ _ _ _ named _ _ _ c.in-Some.is) (terms_over before _ _ _ _ _ _ held _ _ _ _ _ named _ _ _ c.in-Some.is) (term_over before _ _ _ _ _ _ held _ _ _ _ _ named _ _ _ c.in-Some.is)) c.if-enter_term.false _ _ c.give_rank.ensures.0
