use Rattle.theory.specs.Words.{same_true}
use Rattle.std.proofs.Common.{◌≡◌, true, false}
use Rattle.rules.specs.Words.{same}
use Rattle.importer_says.specs.declared.Directive.TheVariants.{Inputs, Outputs, Terms, States}
use Rattle.importer_says.specs.Directives.{name_of, reset_name}
use Rattle.importer_says.proofs.Saying.{names_none}
use Rattle.importer_says.proofs.lines.named_by.Goals as goal

pub returns-then-same_text : goal.returns-then-same_text
returns-then-same_text c = let is : same c.args.field.now (name_of Inputs) ≡ true = cc in record { told = same_true _ _ is }

pub returns-then-same_text-2 : goal.returns-then-same_text-2
returns-then-same_text-2 c = let is : same c.args.field.now (name_of Outputs) ≡ true = cc in record { told = same_true _ _ is }

pub returns-then-same_text-3 : goal.returns-then-same_text-3
returns-then-same_text-3 c = let is : same c.args.field.now (name_of Terms) ≡ true = cc in record { told = same_true _ _ is }

pub returns-then-same_text-4 : goal.returns-then-same_text-4
returns-then-same_text-4 c = let is : same c.args.field.now (name_of States) ≡ true = cc in record { told = same_true _ _ is }

pub returns-then-same_text-5 : goal.returns-then-same_text-5
returns-then-same_text-5 c = let is : same c.args.field.now reset_name ≡ true = cc in record { told = same_true _ _ is }

pub returns : goal.returns
returns c =
    let no_inputs : same c.args.field.now (name_of Inputs) ≡ false = cc in
    let no_outputs : same c.args.field.now (name_of Outputs) ≡ false = cc in
    let no_terms : same c.args.field.now (name_of Terms) ≡ false = cc in
    let no_states : same c.args.field.now (name_of States) ≡ false = cc in
    let no_reset : same c.args.field.now reset_name ≡ false = cc in
    record { told = names_none _ no_inputs no_outputs no_terms no_states no_reset }
