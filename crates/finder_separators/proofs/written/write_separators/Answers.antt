use Rattle.finder_separators.proofs.Copying.{list_start, list_room, list_next, list_end}
use Rattle.finder_separators.proofs.written.write_separators.Goals as goal

pub loop-j-init : goal.loop-j-init
loop-j-init c = list_start c.args.text.now c.args.places.now c.args.count c.args.out.now c.args.at

pub copy_word-place-requires-clause-whole : goal.copy_word-place-requires-clause-whole
copy_word-place-requires-clause-whole c = rw c.wide_link.ensures (c.requires.whole_at.whole c.loop-j.j c.loop-j-test.true)

pub copy_word-place-requires-clause-word_in_bounds : goal.copy_word-place-requires-clause-word_in_bounds
copy_word-place-requires-clause-word_in_bounds c = list_room c.args.text.now c.args.places.now c.args.count c.args.out.now c.args.at c.loop-j.j c.loop-j.out c.loop-j.place c.loop-j.invariant _ c.loop-j-test.true c.wide_link.ensures c.requires.count_in_bounds

pub loop-j-preserved : goal.loop-j-preserved
loop-j-preserved c = list_next c.args.text.now c.args.places.now c.args.count c.args.out.now c.args.at c.loop-j.j c.loop-j.out c.loop-j.place c.loop-j.invariant _ _ _ c.loop-j-test.true c.wide_link.ensures c.copy_word-place.ensures

pub returns : goal.returns
returns c = list_end c.args.text.now c.args.places.now c.args.count c.args.out.now c.args.at c.loop-j.j c.loop-j.out c.loop-j.place c.loop-j.invariant c.loop-j-test.false
