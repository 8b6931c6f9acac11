use Rattle.std.proofs.Common.{◌≡◌}
use Rattle.rules.specs.Lists.{first}
use Rattle.rules.specs.Needed.{pairs}
use Rattle.soundness_apart.specs.Separating.{golden_at, separators_at, alike, KnownAt}
use Rattle.soundness_apart.proofs.Rows.{rows_from}
use Rattle.soundness_apart.proofs.unseparated.Given as goal

abbrev pub invariant-loop-p : goal.invariant-loop-p
invariant-loop-p l = record {
  known : KnownAt l.bytes l.x l.known;
  same : first (λ (p, q). alike (golden_at l.bytes l.x) (separators_at l.bytes l.x) p q) (pairs l.x.states) ≡ first (λ (p, q). alike (golden_at l.bytes l.x) (separators_at l.bytes l.x) p q) (rows_from l.x.states l.p);
}
