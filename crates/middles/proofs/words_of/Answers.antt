use Rattle.std.proofs.Common.{◌≡◌, refl, arith, rules}
use Rattle.rules.specs.Words.{words_of}
use Rattle.middles.proofs.Growth.{words_turn}
use Rattle.middles.proofs.words_of.Goals as goal

pub loop-init : goal.loop-init
loop-init c = (unfold words_of in refl, search rules, search rules)

pub overflow_mul-words : goal.overflow_mul-words
overflow_mul-words c = let t = words_turn c.args.inputs c.loop.counter c.loop.words c.requires.0 c.requires.1 (omega arith) c.loop.invariant.0 c.loop.invariant.1 in omega (arith, t.2)

pub loop-preserved : goal.loop-preserved
loop-preserved c = let t = words_turn c.args.inputs c.loop.counter c.loop.words c.requires.0 c.requires.1 (omega arith) c.loop.invariant.0 c.loop.invariant.1 in (t.0, t.1, t.2)

pub returns : goal.returns
returns c = let e : c.loop.counter ≡ c.args.len = omega arith in (rw (← e) c.loop.invariant.0, c.loop.invariant.1, c.loop.invariant.2)
