use Rattle.importer_names.proofs.Table.{part_long, name_added}
use Rattle.importer_names.proofs.add_name.Goals as goal

pub returns : goal.returns
returns c = λ l at is. rw c.copy.ensures (name_added _ _ _ _ _ c.requires.names_len.0 c.requires.names_len.1 c.requires.field_in.2 c.requires.field_in.1 (part_long c.args.text.now _ _ c.requires.field_in.0.some_byte c.requires.field_in.0.inside) l at is)
