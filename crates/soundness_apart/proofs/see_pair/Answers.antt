use Rattle.std.proofs.Common.{sym}
use Rattle.soundness_apart.proofs.Remembered.{told_apart}
use Rattle.soundness_apart.proofs.see_pair.Goals as goal

pub returns-in-Some : goal.returns-in-Some
returns-in-Some c =
    let t = rw c.in-Some.is at c.find_telling.ensures in
    (sym (told_apart c.args.bytes.now c.args.x c.args.p.0 c.args.q.0 _ t.0 t.1), c.remember.ensures c.args.bytes.now c.args.x c.requires.known_at t.0)
