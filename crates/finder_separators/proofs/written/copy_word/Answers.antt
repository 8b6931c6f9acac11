use Rattle.finder_separators.proofs.Copying.{copy_start, copy_size, copy_next, copy_end}
use Rattle.std.proofs.Common.{◌≡◌, ◌+◌, arith}
use Rattle.finder_separators.proofs.written.copy_word.Goals as goal

pub word_length-size-requires : goal.word_length-size-requires
word_length-size-requires c = c.requires.whole

pub loop-i-init : goal.loop-i-init
loop-i-init c = copy_start c.args.text.now c.args.word c.args.out.now c.args.at

pub loop-i-preserved : goal.loop-i-preserved
loop-i-preserved c = copy_next c.args.text.now c.args.word c.word_length-size.result c.word_length-size.ensures.0 c.word_length-size.ensures.1 c.args.out.now c.args.at c.loop-i.out c.loop-i.i c.loop-i.invariant c.loop-i-test.true

pub returns : goal.returns
returns c =
    let n = c.word_length-size.result in
    let wrote = copy_end c.args.text.now c.args.word n c.word_length-size.ensures.0 c.word_length-size.ensures.1 c.args.out.now c.args.at c.loop-i.out c.loop-i.i c.loop-i.invariant c.loop-i-test.false in
    let all : c.loop-i.i ≡ 1 + n = omega (arith, c.loop-i-test.false) in
    rw all at wrote

pub bounds-out-at : goal.bounds-out-at
bounds-out-at c = omega (arith, c.loop-i-test.true, copy_size c.args.text.now c.args.word c.word_length-size.result c.word_length-size.ensures.0 c.word_length-size.ensures.1, c.requires.word_in_bounds, c.loop-i.invariant.size)
