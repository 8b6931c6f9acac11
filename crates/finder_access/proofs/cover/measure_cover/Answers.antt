use Rattle.std.proofs.Common.{arith, ap, length}
use Rattle.finder_access.specs.Reached.{word_to}
use Rattle.finder_access.proofs.Covering.{cover_start, cover_end, cover_longer}
use Rattle.finder_access.proofs.cover.measure_cover.Goals as goal

pub loop-q-init : goal.loop-q-init
loop-q-init c = (omega arith, λ u r same. omega (arith, ap length (cover_start u _ same)))

pub loop-q-preserved : goal.loop-q-preserved
loop-q-preserved c = (omega (arith, c.loop-q.invariant.0, c.access_length.ensures.1), λ u r same. omega (arith, c.loop-q.invariant.1 u r same, cover_longer u c.args.states c.loop-q.q c.loop-q-test.true, c.access_length.ensures.0 u r, ap (λ q. length (word_to u q)) c.numbered.ensures))

pub returns : goal.returns
returns c = (λ u r same. omega (arith, c.loop-q.invariant.1 u r same, ap length (cover_end u c.args.states c.loop-q.q c.loop-q-test.false)), omega (arith, c.loop-q.invariant.0, c.requires.1))
