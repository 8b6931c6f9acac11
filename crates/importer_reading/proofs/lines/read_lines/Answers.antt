use mathlib.Core.Path.{refl, ap, ◌∙◌}
use Rattle.importer_reading.proofs.AllLines.{reading_start, reading_held, read_done, read_wrong, read_goes}
use native.Mathlib.Omega.{arith}
use Rattle.importer_reading.specs.Held.{stepped}
use Rattle.importer_reading.proofs.lines.read_lines.Goals as goal

pub loop-from-init : goal.loop-from-init
loop-from-init c = let (room, room') = c.requires.names_len in let (no-nexts, no-outputs, no-ranks) = c.requires.nexts_value in let (counts, no_names, none-ranked) = c.nothing_said-x.ensures in (reading_start _ _ _ _ _ _ _ room room' no-nexts no-outputs no-ranks counts no_names none-ranked, refl, refl, refl, refl, refl)

pub follow_line-requires-clause-some_held : goal.follow_line-requires-clause-some_held
follow_line-requires-clause-some_held c = reading_held _ _ _ _ _ _ _ _ _ c.loop-from.invariant.0 c.loop-from-test.true c.requires.text_len_bound

pub returns-in-Err : goal.returns-in-Err
returns-in-Err c = rw c.refusal_of.ensures (read_wrong _ _ _ _ _ _ _ _ _ c.loop-from.invariant.0 c.loop-from-test.true _ c.line_end-end.ensures _ _ _ _ _ _ (c.follow_line.ensures c.loop-from.invariant.0.before c.loop-from.invariant.0.held) _ (ap (λ r. stepped r c.follow_line.new.x) c.in-Err.is))

pub loop-from-preserved : goal.loop-from-preserved
loop-from-preserved c = (read_goes _ _ _ _ _ _ _ _ _ c.loop-from.invariant.0 c.loop-from-test.true _ c.line_end-end.ensures _ _ _ _ _ _ (c.follow_line.ensures c.loop-from.invariant.0.before c.loop-from.invariant.0.held) _ (ap (λ r. stepped r c.follow_line.new.x) c.in_default.is), c.follow_line.auto.names ∙ c.loop-from.invariant.1, c.follow_line.auto.lengths ∙ c.loop-from.invariant.2, c.follow_line.auto.nexts ∙ c.loop-from.invariant.3, c.follow_line.auto.outputs ∙ c.loop-from.invariant.4, c.follow_line.auto.ranks ∙ c.loop-from.invariant.5)

pub returns : goal.returns
returns c = read_done _ _ _ _ _ _ _ _ _ c.loop-from.invariant.0 (omega (arith, c.loop-from-test.false))
