use Rattle.checker_search.proofs.Missing.{root_at, cover_none, cover_off, cover_known, cover_done, middle_off, middle_known, middle_done, separator_start, separator_next, separator_lacks, place_whole}
use Rattle.checker_search.proofs.find_missing.Goals as goal

pub way_of_cover-requires-clause-node : goal.way_of_cover-requires-clause-node
way_of_cover-requires-clause-node c = root_at c.requires

pub cover-preserved-in-Known : goal.cover-preserved-in-Known
cover-preserved-in-Known c = (c.cover.invariant.0, cover_known c.requires c.cover.invariant.1 c.cover-test.true c.way_of_cover.result c.way_of_cover.ensures c.in-Known.is _ c.word_end-after.ensures.0)

pub middle-preserved-in-Known-way_of_middle : goal.middle-preserved-in-Known-way_of_middle
middle-preserved-in-Known-way_of_middle c = (c.middle.invariant.0, middle_known c.requires c.middle.invariant.1 c.middle-test.true _ c.way_of_middle.result c.way_of_middle.ensures c.in-Known-way_of_middle.is)

pub separator-init : goal.separator-init
separator-init c = (c.middle.invariant.0, separator_start c.requires c.middle.invariant.1 c.middle-test.true _ c.way_of_middle.result c.way_of_middle.ensures _ c.in-To-way_of_middle.is)

pub begun-requires-clause-whole : goal.begun-requires-clause-whole
begun-requires-clause-whole c = place_whole c.requires c.separator.invariant.1 c.separator-test.true

pub separator-preserved : goal.separator-preserved
separator-preserved c = (c.separator.invariant.0, separator_next c.requires c.separator.invariant.1 c.separator-test.true _ c.begun.ensures c.if-begun.true)

pub middle-preserved : goal.middle-preserved
middle-preserved c = (c.separator.invariant.0, middle_done c.requires c.middle.invariant.1 c.middle-test.true _ c.way_of_middle.result c.way_of_middle.ensures _ c.in-To-way_of_middle.is c.separator.invariant.1 c.separator-test.false c.mark.ensures)

pub cover-preserved : goal.cover-preserved
cover-preserved c = (c.middle.invariant.0, cover_done c.requires c.middle.invariant.1 c.cover.invariant.1 c.cover-test.true c.middle-test.false _ c.word_end-after.ensures.0 c.mark-in-cover.ensures)

pub returns-after-cover : goal.returns-after-cover
returns-after-cover c = cover_none c.requires c.cover.invariant.1 c.cover-test.false _ c.cover.invariant.0

pub returns-in-Off : goal.returns-in-Off
returns-in-Off c = cover_off c.requires c.cover.invariant.1 c.cover-test.true c.way_of_cover.result c.way_of_cover.ensures c.in-Off.is

pub returns-in-Off-way_of_middle : goal.returns-in-Off-way_of_middle
returns-in-Off-way_of_middle c = middle_off c.requires c.middle.invariant.1 c.middle-test.true _ c.way_of_middle.result c.way_of_middle.ensures c.in-Off-way_of_middle.is c.cover.invariant.1 c.cover-test.true

pub returns-else-begun : goal.returns-else-begun
returns-else-begun c = separator_lacks c.requires c.separator.invariant.1 c.separator-test.true _ c.begun.ensures c.if-begun.false c.middle.invariant.1 c.middle-test.true c.cover.invariant.1 c.cover-test.true _ c.wide_link-s.ensures
