use Rattle.std.proofs.Common.{sym, ◌∙◌, ap, not}
use borrow.Author.Tests.{not-true}
use Rattle.soundness_apart.proofs.Remembered.{told_apart}
use Rattle.soundness_apart.proofs.told_by_known.Goals as goal

pub returns-then-not-answers_alike : goal.returns-then-not-answers_alike
returns-then-not-answers_alike c = λ e. told_apart c.args.bytes.now c.args.x c.args.p.0 c.args.q.0 _ (c.requires.known_at.separators c.loop-j.j c.loop-j-test.true) (sym c.answers_alike.ensures ∙ not-true _ (ap not c.if-not-answers_alike.true))
