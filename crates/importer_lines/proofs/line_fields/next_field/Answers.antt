use Rattle.std.proofs.Common.{arith, refl}
use Rattle.importer_lines.specs.Fields.{no_field, fields_none}
use Rattle.importer_lines.proofs.Counting.{next_found}
use Rattle.importer_lines.proofs.line_fields.next_field.Goals as goal

pub returns-then-from-end-clause-next_field : goal.returns-then-from-end-clause-next_field
returns-then-from-end-clause-next_field c = no_field (fields_none c.args.text.now c.args.from c.args.end (omega (arith, c.if-from-end.true))) refl refl

pub returns-clause-next_field : goal.returns-clause-next_field
returns-clause-next_field c = next_found _ _ _ _ _ c.requires.1 c.field_start-start.ensures c.field_end-stop.ensures

pub returns-clause-end_le_end : goal.returns-clause-end_le_end
returns-clause-end_le_end c = c.field_end-stop.ensures.inside
