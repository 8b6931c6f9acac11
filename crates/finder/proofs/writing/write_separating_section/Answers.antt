use native.Mathlib.Omega.{arith}
use mathlib.Core.Path.{sym}
use Rattle.finder_separators.specs.Kept.{words_from}
use Rattle.finder_separators.proofs.Keeping.{from_count}
use Rattle.finder.proofs.Sections.{words_long, section_room, section_written}
use Rattle.finder.proofs.writing.write_separating_section.Goals as goal

pub write_count-next-requires : goal.write_count-next-requires
write_count-next-requires c = (omega (arith, c.requires.count_in_bounds, words_long (words_from c.args.text.now c.args.kept.now 0 c.args.count)), omega (arith, c.requires.whole_at.few))

pub write_separators-requires-clause-whole_at : goal.write_separators-requires-clause-whole_at
write_separators-requires-clause-whole_at c = c.requires.whole_at

pub write_separators-requires-clause-count_in_bounds : goal.write_separators-requires-clause-count_in_bounds
write_separators-requires-clause-count_in_bounds c = section_room _ c.write_count-next.ensures (words_from c.args.text.now c.args.kept.now 0 c.args.count) c.requires.count_in_bounds

pub returns : goal.returns
returns c = section_written _ c.write_count-next.ensures (words_from c.args.text.now c.args.kept.now 0 c.args.count) (sym (from_count _ _ 0 _)) c.write_separators.ensures
