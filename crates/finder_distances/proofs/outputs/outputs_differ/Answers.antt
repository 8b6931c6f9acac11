use Rattle.std.proofs.Common.{ap, ◌∙◌}
use Rattle.rules.specs.Machines.{Machine}
use Rattle.finder_distances.specs.Leads.{differs}
use Rattle.finder_distances.proofs.outputs.outputs_differ.Goals as goal

pub returns : goal.returns
unfolding differs
returns c =
    let one = c.output.ensures ∙ ap (λ (M : Machine). M.output c.args.p.0 c.args.input.0) c.table-table.ensures.2 in
    let other = c.output-2.ensures ∙ ap (λ (M : Machine). M.output c.args.q.0 c.args.input.0) c.table-table.ensures.2 in
    c.ne.ensures ∙ rw (one, other)
