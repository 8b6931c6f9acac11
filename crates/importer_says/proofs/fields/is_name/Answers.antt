use Rattle.std.proofs.Common.{rules, sym, ◌∙◌}
use Rattle.std.proofs.lemmas.Iterator.{YieldsList-from_slice}
use Rattle.std.proofs.lemmas.Iterator.Search.{all_from_yields_List}
use borrow.Author.Tests.{tests}
use Rattle.std.proofs.Common.{◌≡◌, true}
use Rattle.std.specs.Prelude.{leb, ◌&&◌, length}
use Rattle.rules.specs.Sizes.{counts}
use Rattle.importer_says.proofs.Bytes.{all_pass}
use Rattle.importer_says.proofs.fields.is_name.Goals as goal

pub returns-then-in_range : goal.returns-then-in_range
returns-then-in_range c =
    let e : counts 16 (length c.args.field.now) ≡ true = sym c.in_range.ensures ∙ c.if-in_range.true in
    rw e (all_from_yields_List (λ y. leb 33 y && leb y 126) _ _ _ c.all.ensures.ran (YieldsList-from_slice c.args.field.now cc) (λ x b q k. search (rules, tests)) ∙ all_pass (λ y. leb 33 y && leb y 126) c.args.field.now)
