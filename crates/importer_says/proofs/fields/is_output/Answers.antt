use Rattle.std.proofs.Common.{rules, ◌∙◌}
use Rattle.std.proofs.lemmas.Iterator.{YieldsList-from_slice}
use Rattle.std.proofs.lemmas.Iterator.Search.{all_from_yields_List}
use borrow.Author.Tests.{tests}
use Rattle.rules.specs.Kiss2.{is_bit}
use Rattle.importer_says.proofs.Bytes.{all_pass}
use Rattle.importer_says.proofs.fields.is_output.Goals as goal

pub returns : goal.returns
returns c = all_from_yields_List is_bit _ _ _ c.all.ensures.ran (YieldsList-from_slice c.args.field.now cc) (λ x b q k. search (rules, tests)) ∙ all_pass is_bit c.args.field.now
