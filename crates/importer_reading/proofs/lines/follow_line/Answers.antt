use Rattle.importer_reading.proofs.AllLines.{some_names, some_said, ranks_room, term_fields, said_so, bad_step, skipped_goes}
use Rattle.importer_reading.proofs.OneTerm.{name_short}
use Rattle.importer_says.specs.Said.{said_skipped, said_number, said_reset, said_term, said_end, said_bad}
use Rattle.importer_reading.proofs.lines.follow_line.Goals as goal

pub follow_number-requires : goal.follow_number-requires
follow_number-requires c = let says = said_number c.line_said.ensures c.in-Number.is in (says.least, says.most)

pub follow_reset-requires-clause-field_in : goal.follow_reset-requires-clause-field_in
follow_reset-requires-clause-field_in c = let says = said_reset c.line_said.ensures c.in-Reset.is in (says.name.field_in, name_short says.name)

pub follow_reset-requires-clause-some_names : goal.follow_reset-requires-clause-some_names
follow_reset-requires-clause-some_names c = let says = said_reset c.line_said.ensures c.in-Reset.is in some_names c.requires.some_held

pub follow_reset-requires-clause-ranks_len : goal.follow_reset-requires-clause-ranks_len
follow_reset-requires-clause-ranks_len c = let says = said_reset c.line_said.ensures c.in-Reset.is in ranks_room c.requires.some_held

pub follow_term-requires-clause-term_fields : goal.follow_term-requires-clause-term_fields
follow_term-requires-clause-term_fields c = let says = said_term c.line_said.ensures c.in-Term.is in term_fields says

pub follow_term-requires-clause-some_said : goal.follow_term-requires-clause-some_said
follow_term-requires-clause-some_said c = let says = said_term c.line_said.ensures c.in-Term.is in some_said c.requires.some_held

pub follow_term-requires-clause-nexts_len : goal.follow_term-requires-clause-nexts_len
follow_term-requires-clause-nexts_len c = let says = said_term c.line_said.ensures c.in-Term.is in c.requires.some_held.held.entered.room

pub follow_term-requires-clause-ranks_len : goal.follow_term-requires-clause-ranks_len
follow_term-requires-clause-ranks_len c = let says = said_term c.line_said.ensures c.in-Term.is in ranks_room c.requires.some_held

pub returns-in-Skipped : goal.returns-in-Skipped
returns-in-Skipped c = λ before held. said_so (said_skipped c.line_said.ensures c.in-Skipped.is) (skipped_goes before _ _ _ _ _ _ held)

pub returns-in-Number : goal.returns-in-Number
returns-in-Number c = λ before held. said_so (said_number c.line_said.ensures c.in-Number.is).said (rw c.take.ensures (c.follow_number.ensures before _ _ _ _ _ held))

pub returns-in-Reset : goal.returns-in-Reset
returns-in-Reset c = λ before held. said_so (said_reset c.line_said.ensures c.in-Reset.is).said (rw c.take-in-Reset.ensures (c.follow_reset.ensures before _ _ held))

pub returns-in-Term : goal.returns-in-Term
returns-in-Term c = λ before held. said_so (said_term c.line_said.ensures c.in-Term.is).said (rw c.take-in-Term.ensures (c.follow_term.ensures before held))

pub returns-in-End : goal.returns-in-End
returns-in-End c = λ before held. said_so (said_end c.line_said.ensures c.in-End.is) (rw c.take-in-End.ensures (c.follow_end.ensures before _ _ _ _ _ held))

pub returns-in-Bad : goal.returns-in-Bad
returns-in-Bad c = λ before held. said_so (said_bad c.line_said.ensures c.in-Bad.is) (bad_step before _ _ _ _ _)
