use Rattle.importer_counts.proofs.OneMore.{with_inputs, with_outputs, with_terms, with_states}
use Rattle.importer_counts.proofs.with_number.Goals as goal

pub returns-in-Inputs : goal.returns-in-Inputs
returns-in-Inputs c = λ before at none. let first = rw c.in-Inputs.is at none in rw c.in-Inputs.is (with_inputs before _ at _ (rw c.in-Inputs.is at c.requires) first)

pub returns-in-Outputs : goal.returns-in-Outputs
returns-in-Outputs c = λ before at none. let first = rw c.in-Outputs.is at none in rw c.in-Outputs.is (with_outputs before _ at _ (rw c.in-Outputs.is at c.requires) first)

pub returns-in-Terms : goal.returns-in-Terms
returns-in-Terms c = λ before at none. let first = rw c.in-Terms.is at none in rw c.in-Terms.is (with_terms before _ at _ first)

pub returns-in-States : goal.returns-in-States
returns-in-States c = λ before at none. let first = rw c.in-States.is at none in rw c.in-States.is (with_states before _ at _ first)
