use borrow.Author.Tests.{ne_eqb}
use Rattle.importer_names.proofs.Table.{named_is, other_size, other_last}
use Rattle.importer_names.proofs.is_named.Goals as goal

pub returns-then-end-start : goal.returns-then-end-start
returns-then-end-start c = other_size c.args.names.now c.args.lengths.now c.args.text.now c.args.part c.args.j c.wide-size.result c.requires.slot_in c.requires.field_in c.wide-size.ensures.0 c.if-end-start.true

pub returns-else-names-to : goal.returns-else-names-to
returns-else-names-to c = rw (ne_eqb _ _ c.if-names-to.false) (other_last c.args.names.now c.args.lengths.now c.args.text.now c.args.part c.args.j c.wide-size.result c.requires.slot_in c.requires.field_in c.wide-size.ensures.0 c.if-end-start.false c.if-names-to.false)

pub returns-then-names-to : goal.returns-then-names-to
returns-then-names-to c = named_is c.args.names.now c.args.lengths.now _ c.args.j c.wide-size.result _ c.wide-size.ensures.0 c.same_text.ensures
