use Rattle.std.proofs.Common.{◌≡◌, refl, ap, rules}
use Rattle.std.specs.Prelude.{not, Some}
use Rattle.importer_counts.proofs.OneMore.{term_goes}
use Rattle.importer_counts.proofs.count_term.Goals as goal

pub returns : goal.returns
returns c =
    let cube_said : c.args.x.input_bits ≡ Some c.args.cube = search rules in
    let output_said : c.args.x.output_bits ≡ Some c.args.output = search rules in
    λ before t at cube_is output_is.
    term_goes before _ at t c.if-x.false _ _ cube_is output_is cube_said output_said _ refl _ c.allows.ensures (ap not c.if-not-allows.false)
