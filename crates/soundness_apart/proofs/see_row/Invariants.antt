use Rattle.std.proofs.Common.{◌≡◌, ◌+◌, ◌-◌}
use Rattle.rules.specs.Lists.{first, numbers_from}
use Rattle.soundness_apart.specs.Separating.{golden_at, separators_at, alike, KnownAt}
use Rattle.soundness_apart.proofs.see_row.Given as goal

abbrev pub invariant-loop-q : goal.invariant-loop-q
invariant-loop-q l = record {
  known : KnownAt l.bytes l.x l.known;
  same : first (alike (golden_at l.bytes l.x) (separators_at l.bytes l.x) l.p.0) (numbers_from (l.p.0 + 1) (l.x.states - (l.p.0 + 1))) ≡ first (alike (golden_at l.bytes l.x) (separators_at l.bytes l.x) l.p.0) (numbers_from l.q (l.x.states - l.q));
}
