use borrow.Author.Rules.{rules}
use native.Mathlib.Omega.{arith}
use Rattle.middles.proofs.Growth.{no_more, count_more}
use Rattle.middles.proofs.+count.Goals as goal

-- `count`. Each length adds its words. The measure is the most inputs allowed.
pub returns-then-most-eq0 : goal.returns-then-most-eq0
returns-then-most-eq0 t c = (no_more _ _ c.if-most-eq0.true, search rules, search rules)

pub count-requires : goal.count-requires
count-requires t c = (omega (arith, c.decreases), search rules)

pub returns : goal.returns
returns t c = let more = count_more c.args.inputs c.args.most _ _ c.if-most-eq0.false c.requires.1 c.requires.2 c.count.ensures.0 c.words_of.ensures.0 in
    (more.0, search rules, more.1)
