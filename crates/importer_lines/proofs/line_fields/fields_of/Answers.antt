use Rattle.importer_lines.proofs.Counting.{five_taken}
use Rattle.importer_lines.proofs.line_fields.fields_of.Goals as goal

pub returns : goal.returns
returns c = five_taken c.requires.1 c.next_field-a.ensures.next_field c.next_field-b.ensures.next_field c.next_field-c.ensures.next_field c.next_field-d.ensures.next_field c.next_field-e.ensures.next_field c.held.ensures c.held-2.ensures c.held-3.ensures c.held-4.ensures c.held-5.ensures
