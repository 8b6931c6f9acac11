use Rattle.importer.proofs.Ending.{text_long, text_refused, some_read, text_read}
use mathlib.Core.Path.{refl}
use native.Mathlib.Omega.{arith}
use Rattle.importer.proofs.read_kiss2.Goals as goal

pub returns-then-text-gt-MOST_TEXT : goal.returns-then-text-gt-MOST_TEXT
returns-then-text-gt-MOST_TEXT c = text_long _ _ c.if-text-gt-MOST_TEXT.true

pub read_lines-requires-clause-text_len_bound : goal.read_lines-requires-clause-text_len_bound
read_lines-requires-clause-text_len_bound c = omega (arith, c.if-text-gt-MOST_TEXT.false)

pub read_lines-requires-clause-names_len : goal.read_lines-requires-clause-names_len
read_lines-requires-clause-names_len c = (refl, refl)

pub read_lines-requires-clause-nexts_value : goal.read_lines-requires-clause-nexts_value
read_lines-requires-clause-nexts_value c = (c.no_entries-nexts.ensures, c.no_entries-outputs.ensures, c.no_ranks-ranks.ensures)

pub finish-requires : goal.finish-requires
finish-requires c = some_read _ _ _ _ _ _ (omega (arith, c.if-text-gt-MOST_TEXT.false)) _ c.read_lines.ensures _ _ c.in-Ok.is

pub returns-in-Err : goal.returns-in-Err
returns-in-Err c = text_refused _ _ _ _ _ _ (omega (arith, c.if-text-gt-MOST_TEXT.false)) _ c.read_lines.ensures _ _ c.in-Err.is

pub returns-in-Ok : goal.returns-in-Ok
returns-in-Ok c = text_read _ _ _ _ _ _ (omega (arith, c.if-text-gt-MOST_TEXT.false)) _ c.read_lines.ensures _ _ c.in-Ok.is _ _ _ c.finish.ensures
