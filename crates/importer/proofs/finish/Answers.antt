use native.Mathlib.Omega.{arith}
use mathlib.Core.Path.{sym}
use Rattle.importer.proofs.Ranks.{ranks_room, ranked_now}
use Rattle.importer.proofs.Ending.{lacking, whole}
use Rattle.std.proofs.Common.{ap, ◌∙◌, ◌^◌}
use Rattle.std.specs.Prelude.{not}
use Rattle.importer.proofs.finish.Goals as goal

pub returns-then-not-is_whole : goal.returns-then-not-is_whole
returns-then-not-is_whole c = λ said names lengths held. lacking said _ _ _ (c.is_whole.ensures said held.counted (sym held.many)) (ap not c.if-not-is_whole.true)

pub give_ranks-requires : goal.give_ranks-requires
give_ranks-requires c = let room = ranks_room _ _ _ _ _ _ _ c.requires.held in (room.0, omega (arith, room.1), omega (arith, room.2))

pub write_complete-requires : goal.write_complete-requires
write_complete-requires c = record { said = c.requires.said; ranked = ranked_now _ _ _ _ _ _ _ c.requires.held _ _ _ _ _ c.give_ranks.ensures (omega arith) (omega arith) (c.input_count-inputs.ensures ∙ ap (λ n. 2 ^ n) c.unwrap_or.ensures) }

pub returns : goal.returns
returns c = λ said names lengths held. whole said _ _ _ (c.is_whole.ensures said held.counted (sym held.many)) (ap not c.if-not-is_whole.false) _ _ (c.write_complete.ensures said (ranked_now _ _ _ _ _ _ _ held _ _ _ _ _ c.give_ranks.ensures (omega arith) (omega arith) (c.input_count-inputs.ensures ∙ ap (λ n. 2 ^ n) c.unwrap_or.ensures)))
