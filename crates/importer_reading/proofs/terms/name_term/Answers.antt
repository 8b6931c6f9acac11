use mathlib.Core.Path.{sym, ◌∙◌}
use Rattle.importer_reading.proofs.OneTerm.{name_short, field_long, term_misfits, no_room, too_many, output_in, term_ready, term_named}
use Rattle.std.proofs.Common.{ap}
use Rattle.std.specs.Prelude.{not}
use Rattle.importer_reading.proofs.terms.name_term.Goals as goal

pub number_both-requires-clause-field_in : goal.number_both-requires-clause-field_in
number_both-requires-clause-field_in c = let f = c.requires.term_fields in let v = c.requires.some_said in (f.current.field_in, name_short f.current, f.next.field_in, name_short f.next)

pub number_both-requires-clause-some_names : goal.number_both-requires-clause-some_names
number_both-requires-clause-some_names c = let f = c.requires.term_fields in let v = c.requires.some_said in record { list = _; at = v.named; many = sym v.many }

pub returns-then-not-allows-clause-named_term_as : goal.returns-then-not-allows-clause-named_term_as
returns-then-not-allows-clause-named_term_as c = let f = c.requires.term_fields in let v = c.requires.some_said in λ before nexts outputs ranks held. too_many _ before _ held.counted _ f _ (c.count_term.ensures before _ held.counted (field_long f.cube_in ∙ sym c.size.ensures) (field_long f.output_in ∙ sym c.size-2.ensures)) _ c.in_ok-counts.was _ _ _ (c.number_both.ensures _ held.named (sym held.many)) _ _ _ c.in_ok-current.was _ c.allows.ensures (ap not c.if-not-allows.true)

pub output_value-output-requires : goal.output_value-output-requires
output_value-output-requires c = let f = c.requires.term_fields in let v = c.requires.some_said in output_in _ v.before _ v.counted _ f _ (c.count_term.ensures v.before _ v.counted (field_long f.cube_in ∙ sym c.size.ensures) (field_long f.output_in ∙ sym c.size-2.ensures)) _ c.in_ok-counts.was _ _ _ (c.number_both.ensures _ v.named (sym v.many)) _ _ _ c.in_ok-current.was _ c.allows.ensures (ap not c.if-not-allows.false)

pub returns-in_err-counts-clause-named_term_as : goal.returns-in_err-counts-clause-named_term_as
returns-in_err-counts-clause-named_term_as c = let f = c.requires.term_fields in let v = c.requires.some_said in λ before nexts outputs ranks held. rw c.from_residual.ensures (term_misfits _ before _ held.counted _ f _ (c.count_term.ensures before _ held.counted (field_long f.cube_in ∙ sym c.size.ensures) (field_long f.output_in ∙ sym c.size-2.ensures)) c.in_err-counts.was _ _)

pub returns-in_err-current-clause-named_term_as : goal.returns-in_err-current-clause-named_term_as
returns-in_err-current-clause-named_term_as c = let f = c.requires.term_fields in let v = c.requires.some_said in λ before nexts outputs ranks held. rw c.from_residual-in_err-current.ensures (no_room _ before _ held.counted _ f _ (c.count_term.ensures before _ held.counted (field_long f.cube_in ∙ sym c.size.ensures) (field_long f.output_in ∙ sym c.size-2.ensures)) _ c.in_ok-counts.was _ _ _ (c.number_both.ensures _ held.named (sym held.many)) c.in_err-current.was)

pub returns-clause-named_term_as : goal.returns-clause-named_term_as
returns-clause-named_term_as c = let f = c.requires.term_fields in let v = c.requires.some_said in λ before nexts outputs ranks held. term_named _ before _ held.counted _ f _ (c.count_term.ensures before _ held.counted (field_long f.cube_in ∙ sym c.size.ensures) (field_long f.output_in ∙ sym c.size-2.ensures)) _ c.in_ok-counts.was _ _ _ (c.number_both.ensures _ held.named (sym held.many)) _ _ _ c.in_ok-current.was _ c.allows.ensures (ap not c.if-not-allows.false) _ c.output_value-output.ensures

pub returns-clause-ready : goal.returns-clause-ready
returns-clause-ready c = let f = c.requires.term_fields in let v = c.requires.some_said in term_ready _ v.before _ v.counted _ f _ (c.count_term.ensures v.before _ v.counted (field_long f.cube_in ∙ sym c.size.ensures) (field_long f.output_in ∙ sym c.size-2.ensures)) _ c.in_ok-counts.was _ _ _ (c.number_both.ensures _ v.named (sym v.many)) _ _ _ c.in_ok-current.was _ c.allows.ensures (ap not c.if-not-allows.false) _
