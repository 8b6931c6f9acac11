use Rattle.finder_separators.proofs.Copying.{measure_start, measure_next, measure_end}
use Rattle.finder_separators.proofs.written.separators_size.Goals as goal

pub loop-j-init : goal.loop-j-init
loop-j-init c = measure_start c.args.text.now c.args.places.now c.args.count

pub word_length-requires : goal.word_length-requires
word_length-requires c = rw c.wide_link.ensures (c.requires.whole c.loop-j.j c.loop-j-test.true)

pub loop-j-preserved : goal.loop-j-preserved
loop-j-preserved c = measure_next c.args.text.now c.args.places.now c.args.count c.loop-j.size c.loop-j.j c.loop-j.invariant _ _ c.loop-j-test.true c.wide_link.ensures c.word_length.ensures.0 c.word_length.ensures.2

pub returns : goal.returns
returns c = measure_end c.args.text.now c.args.places.now c.args.count c.loop-j.size c.loop-j.j c.loop-j.invariant c.loop-j-test.false
