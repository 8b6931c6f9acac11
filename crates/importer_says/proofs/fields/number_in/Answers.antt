use Rattle.std.proofs.Common.{◌≡◌, true, length, sym, ◌∙◌}
use Rattle.rules.specs.Sizes.{counts}
use Rattle.importer_says.proofs.Values.{counts_bounds}
use Rattle.importer_says.proofs.fields.number_in.Goals as goal

pub value_of-requires : goal.value_of-requires
value_of-requires c =
    let ranged : counts 9 (length c.args.field.now) ≡ true = sym c.in_range.ensures ∙ c.if-in_range.true in
    ((counts_bounds 9 _ ranged).1, sym c.is_digits.ensures ∙ c.if-is_digits.true)
