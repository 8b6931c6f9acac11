use Rattle.std.proofs.Common.{ap, rules, ◌∙◌}
use Rattle.rules.specs.Lists.{numbers}
use Rattle.finder_distances.specs.Leads.{machine_of_unit, nears, lead_of}
use Rattle.finder_distances.proofs.Leading.{leads_some}
use Rattle.finder_distances.proofs.leads.find_lead.Goals as goal

pub returns : goal.returns
returns c =
    c.lowest_input-2.ensures (nears (machine_of_unit c.args.unit.now.bytes.now c.args.unit.now.shape) c.args.distances.now c.args.left c.args.p.0 c.args.q.0) (λ input answer below says. search rules)
    ∙ ap lead_of (leads_some (machine_of_unit c.args.unit.now.bytes.now c.args.unit.now.shape) c.args.distances.now c.args.p.0 c.args.q.0 c.args.left (numbers c.args.unit.now.shape.inputs) c.if-left-eq0.false)
