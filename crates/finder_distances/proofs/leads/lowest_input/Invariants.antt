use Rattle.std.proofs.Common.{◌≡◌, ℕ, Bool}
use Rattle.rules.specs.Lists.{first, numbers}
use Rattle.finder_distances.specs.Leads.{Tests}
use Rattle.finder_distances.proofs.Leading.{from}
use Rattle.finder_distances.proofs.leads.lowest_input.Given as goal

abbrev pub invariant-loop-i : goal.invariant-loop-i
invariant-loop-i g l = (rule : ℕ → Bool) → Tests (goal.F-post g l.test) l.inputs rule → first rule (numbers l.inputs) ≡ from rule l.inputs l.i
