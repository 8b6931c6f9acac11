use Rattle.soundness_apart.proofs.see_row.Goals as goal

pub loop-q-init : goal.loop-q-init
loop-q-init c = record { known = c.requires.known_at; same = rw c.number-q.ensures }
