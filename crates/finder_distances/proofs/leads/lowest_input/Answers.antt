use Rattle.std.proofs.Common.{arith, sym, ◌∙◌}
use Rattle.finder_distances.proofs.Leading.{lead_by, lead_on}
use Rattle.finder_distances.proofs.leads.lowest_input.Goals as goal

pub returns-then-test : goal.returns-then-test
returns-then-test g c = λ rule tests. lead_by rule c.args.inputs c.loop-i.i c.numbered-input.result (c.loop-i.invariant rule tests) c.loop-i-test.true c.numbered-input.ensures (sym (tests c.numbered-input.result c.test.result (omega (arith, c.numbered-input.ensures, c.loop-i-test.true)) c.test.ensures) ∙ c.if-test.true)

pub loop-i-preserved : goal.loop-i-preserved
loop-i-preserved g c = λ rule tests. lead_on rule c.args.inputs c.loop-i.i c.numbered-input.result (c.loop-i.invariant rule tests) c.loop-i-test.true c.numbered-input.ensures (sym (tests c.numbered-input.result c.test.result (omega (arith, c.numbered-input.ensures, c.loop-i-test.true)) c.test.ensures) ∙ c.if-test.false)
