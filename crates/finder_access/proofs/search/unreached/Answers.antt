use Rattle.std.proofs.Common.{arith, sym, ap, ◌∙◌}
use Rattle.soundness_reach.specs.Reached.{state_found}
use Rattle.soundness_reach.proofs.Marks.{state_found_lem}
use Rattle.finder_access.proofs.Covering.{lowest_lacking, lacks_here, lacks_later, lacks_none}
use Rattle.finder_access.proofs.search.unreached.Goals as goal

pub loop-q-init : goal.loop-q-init
loop-q-init c = λ u marks same. lowest_lacking u _ same

pub returns-then-places-wide-eq0 : goal.returns-then-places-wide-eq0
returns-then-places-wide-eq0 c = λ u marks same. state_found_lem c.numbered.result c.loop-q.q _ (omega (arith, c.numbered.ensures)) (c.loop-q.invariant u marks same ∙ lacks_here u _ marks _ c.wide.result _ c.requires.1 c.loop-q-test.true c.wide.ensures.0 (omega (arith, c.if-places-wide-eq0.true)))

pub loop-q-preserved : goal.loop-q-preserved
loop-q-preserved c = λ u marks same. c.loop-q.invariant u marks same ∙ lacks_later u _ marks _ c.wide.result _ c.requires.1 c.loop-q-test.true c.wide.ensures.0 (omega (arith, c.if-places-wide-eq0.false))

pub returns : goal.returns
returns c = λ u marks same. sym (ap state_found (c.loop-q.invariant u marks same ∙ lacks_none u _ _ c.loop-q-test.false))
