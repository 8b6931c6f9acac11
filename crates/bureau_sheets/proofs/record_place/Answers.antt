use Rattle.bureau_sheets.proofs.Deviating.{looking_start, looking_here, looking_next, looking_found}
use native.Mathlib.Omega.{arith}
use mathlib.Core.Path.{◌∙◌, sym}
use Rattle.bureau_sheets.proofs.record_place.Goals as goal

pub loop-place-init : goal.loop-place-init
loop-place-init c = looking_start _ _ _ _ _ c.requires.records_at c.requires.count_value

pub same_word-requires-clause-whole : goal.same_word-requires-clause-whole
same_word-requires-clause-whole c = omega (arith, looking_here _ _ _ _ _ c.loop-place.invariant)

pub same_word-requires-clause-whole_2 : goal.same_word-requires-clause-whole_2
same_word-requires-clause-whole_2 c = c.requires.whole

pub record_end-place-requires : goal.record_end-place-requires
record_end-place-requires c = looking_here _ _ _ _ _ c.loop-place.invariant

pub loop-place-smaller : goal.loop-place-smaller
loop-place-smaller c = omega (arith, c.record_end-place.ensures, looking_here _ _ _ _ _ c.loop-place.invariant)

pub loop-place-preserved : goal.loop-place-preserved
loop-place-preserved c = rw c.record_end-place.ensures (looking_next _ _ _ _ _ c.loop-place.invariant (sym c.same_word.ensures ∙ c.loop-place-test.true))

pub returns : goal.returns
returns c = looking_found _ _ _ _ _ c.loop-place.invariant (sym c.same_word.ensures ∙ c.loop-place-test.false)
