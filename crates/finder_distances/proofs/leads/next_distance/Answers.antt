use Rattle.std.proofs.Common.{ap, ◌∙◌}
use Rattle.rules.specs.Machines.{Machine}
use Rattle.finder_distances.proofs.leads.next_distance.Goals as goal

pub returns : goal.returns
returns c =
    let one = c.next.ensures.0 ∙ ap (λ (M : Machine). M.next c.args.p.0 c.args.input.0) c.table-table.ensures.2 in
    let other = c.next-2.ensures.0 ∙ ap (λ (M : Machine). M.next c.args.q.0 c.args.input.0) c.table-table.ensures.2 in
    rw (c.distance_at.ensures, one, other)
