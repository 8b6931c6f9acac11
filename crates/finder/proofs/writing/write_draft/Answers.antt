use native.Mathlib.Omega.{arith}
use mathlib.Core.Path.{refl}
use Rattle.finder.proofs.Laying.{numbers_room, table_room, cover_room, separating_room, tests_room, all_written}
use Rattle.finder.proofs.writing.write_draft.Goals as goal

pub write_numbers-table-requires : goal.write_numbers-table-requires
write_numbers-table-requires c = numbers_room c.requires c.args.out.now refl

pub write_table-cover-requires : goal.write_table-cover-requires
write_table-cover-requires c = table_room c.requires c.args.out.now refl c.write_numbers-table.ensures

pub write_cover_section-separating-requires : goal.write_cover_section-separating-requires
write_cover_section-separating-requires c = cover_room c.requires c.args.out.now refl c.write_numbers-table.ensures c.write_table-cover.ensures

pub write_separating_section-tests-requires-clause-whole_at : goal.write_separating_section-tests-requires-clause-whole_at
write_separating_section-tests-requires-clause-whole_at c = c.requires.drafted.separators.words

pub write_separating_section-tests-requires-clause-count_in_bounds : goal.write_separating_section-tests-requires-clause-count_in_bounds
write_separating_section-tests-requires-clause-count_in_bounds c = separating_room c.requires c.args.out.now refl c.write_numbers-table.ensures c.write_table-cover.ensures c.write_cover_section-separating.ensures

pub write_count-requires : goal.write_count-requires
write_count-requires c = (tests_room c.requires c.args.out.now refl c.write_numbers-table.ensures c.write_table-cover.ensures c.write_cover_section-separating.ensures c.write_separating_section-tests.ensures, omega arith)

pub returns : goal.returns
returns c = all_written c.requires c.args.out.now refl c.write_numbers-table.ensures c.write_table-cover.ensures c.write_cover_section-separating.ensures c.write_separating_section-tests.ensures c.write_count.ensures
