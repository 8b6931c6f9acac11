use Rattle.walker.proofs.table.Table.standing.Goals as goal

pub invariant_of-result : goal.invariant_of-result
invariant_of-result g c = record { stands = c.requires }
