use Rattle.importer_terms.proofs.Differing.{against_without, against_by}
use borrow.Author.Tests.{not-true, not-false}
use Rattle.std.proofs.Common.{ap}
use Rattle.std.specs.Prelude.{not}
use Rattle.importer_terms.proofs.contradictions.is_against.Goals as goal

pub returns-then-not-cube_has : goal.returns-then-not-cube_has
returns-then-not-cube_has c = against_without c.args.text.now c.args.term c.args.nexts.now c.args.outputs.now _ _ c.cube_has.ensures (not-true _ (ap not c.if-not-cube_has.true))

pub returns : goal.returns
returns c = against_by c.args.text.now c.args.term c.args.nexts.now c.args.outputs.now _ _ c.cube_has.ensures (not-false _ (ap not c.if-not-cube_has.false)) _ c.entry_place-place.ensures.0 _ c.says_else.ensures
