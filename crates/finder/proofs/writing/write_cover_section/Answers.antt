use native.Mathlib.Omega.{arith}
use mathlib.Core.Path.{refl}
use Rattle.finder.proofs.Sections.{cover_count, cover_counted, cover_fits, section_written}
use Rattle.finder.proofs.writing.write_cover_section.Goals as goal

pub write_count-next-requires : goal.write_count-next-requires
write_count-next-requires c = (cover_counted c.requires, omega (arith, c.wide.ensures, c.requires.few))

pub write_cover-requires : goal.write_cover-requires
write_cover-requires c = cover_fits c.requires _ c.write_count-next.ensures refl

pub returns : goal.returns
returns c = λ u r e. section_written _ c.write_count-next.ensures _ (omega (arith, c.wide.ensures, e, cover_count u)) (c.write_cover.ensures u r e)
