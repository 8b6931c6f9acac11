use native.Mathlib.Omega.{arith}
use Rattle.middles.proofs.Growth.{none_left, next_lt, others_lt, one_more}
use Rattle.middles.proofs.+grown_to.Goals as goal

-- `grown_to`. The next input is the row that x is in, and the others are those of the rest of x. The measure is the inputs left.
pub returns-then-left-eq0 : goal.returns-then-left-eq0
returns-then-left-eq0 t c = λ w e. none_left _ _ _ _ w c.if-left-eq0.true c.requires.3 e

pub overflow_cast-i : goal.overflow_cast-i
overflow_cast-i t c = omega (arith, next_lt c.args.inputs c.args.left c.args.x _ c.if-left-eq0.false c.words_of-row.ensures.0 c.requires.3)

pub grown_to-requires : goal.grown_to-requires
grown_to-requires t c = (omega (arith, c.decreases, c.if-left-eq0.false), (omega (arith, c.requires.0, c.if-left-eq0.false, c.grown.ensures.len_value), c.requires.1, c.requires.2, others_lt c.args.inputs c.args.left c.args.x _ c.if-left-eq0.false c.words_of-row.ensures.0 c.requires.3))

pub returns : goal.returns
returns t c = λ w e. one_more c.args.inputs c.args.left c.args.x _ c.if-left-eq0.false c.words_of-row.ensures.0 c.requires.3 c.args.m _ _ c.numbered.result w c.requires.0 c.numbered.ensures c.grown.ensures.value c.grown_to.ensures e
