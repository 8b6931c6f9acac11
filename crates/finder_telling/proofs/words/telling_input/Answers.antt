use Rattle.std.proofs.Common.{rules, ◌≡◌, ◌-◌, refl}
use Rattle.std.specs.Prelude.{Option, Some, None, IsSome}
use Rattle.rules.specs.declared.Input.{Input}
use Rattle.finder_telling.proofs.Reading.{input_found, input_lacking}
use Rattle.finder_distances.proofs.Rounding.{unit_whole}
use Rattle.finder_distances.specs.Leads.{machine_of_unit}
use Rattle.finder_telling.proofs.words.telling_input.Goals as goal

some_else : (found : Option Input) → (found ≡ None → ⊥) → IsSome found
some_else None lacking = absurd (lacking refl)
some_else (Some input) lacking = search rules

pub unwrap-requires : goal.unwrap-requires
unwrap-requires c = some_else c.find_lead.result (input_lacking c.args.unit.now.shape.inputs (machine_of_unit c.args.unit.now.bytes.now c.args.unit.now.shape) (unit_whole c.args.unit.now.bytes.now c.args.unit.now.shape c.args.unit.now.stands) c.args.distances.now (c.args.unit.now.shape.states - 1) c.requires.distances_at.marked c.args.p.0 c.args.q.0 c.requires.p_lt_states.0 c.requires.p_lt_states.1 c.args.left c.requires.p_lt_states.2 _ c.find_lead.ensures)

pub returns : goal.returns
returns c = input_found c.args.unit.now.shape.inputs (machine_of_unit c.args.unit.now.bytes.now c.args.unit.now.shape) (unit_whole c.args.unit.now.bytes.now c.args.unit.now.shape c.args.unit.now.stands) c.args.distances.now (c.args.unit.now.shape.states - 1) c.requires.distances_at.marked c.args.p.0 c.args.q.0 c.requires.p_lt_states.0 c.requires.p_lt_states.1 c.args.left c.requires.p_lt_states.2 _ c.find_lead.ensures _ c.unwrap.ensures
