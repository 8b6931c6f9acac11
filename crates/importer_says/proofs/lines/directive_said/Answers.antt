use Rattle.importer_says.proofs.Saying.{names_number, names_reset, names_other}
use Rattle.importer_says.proofs.lines.directive_said.Goals as goal

pub returns-in-Number : goal.returns-in-Number
returns-in-Number c = names_number _ c.args.a c.args.b c.bytes_of.ensures c.named_by.ensures c.in-Number.is c.number_said.ensures

pub returns-in-Reset : goal.returns-in-Reset
returns-in-Reset c = names_reset _ c.args.a c.args.b c.bytes_of.ensures c.named_by.ensures c.in-Reset.is c.reset_said.ensures

pub returns-in-Other : goal.returns-in-Other
returns-in-Other c = names_other _ c.args.a c.args.b c.bytes_of.ensures c.named_by.ensures c.in-Other.is
