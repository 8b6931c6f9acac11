use Rattle.std.proofs.Common.{arith, ap, ◌∙◌}
use Rattle.rules.specs.Files.{unit}
use Rattle.rules.specs.Machines.{Machine}
use Rattle.reader.specs.Standing.{unit_in}
use Rattle.finder_access.proofs.Searching.{unit_complete, state_small, put_room, search_put}
use Rattle.finder_access.proofs.search.try_input.Goals as goal

pub next-next-requires : goal.next-next-requires
next-next-requires c =
    let u = unit_in c.args.unit.now.bytes.now c.args.unit.now.shape in
    let whole = unit_complete c.args.unit.now.bytes.now c.args.unit.now.shape c.args.unit.now.stands in
    let here = state_small u whole c.args.unit.now.stands.few_inputs c.args.unit.now.stands.few_states c.args.queue.now c.args.places.now _ c.args.tail c.requires.searching c.args.head c.requires.head_lt_tail.0 in
    (rw (c.state_at.ensures, c.table-table.ensures.1) here, rw c.table-table.ensures.0 c.requires.head_lt_tail.1)

pub put-requires-clause-tail_lt_most_states : goal.put-requires-clause-tail_lt_most_states
put-requires-clause-tail_lt_most_states c =
    let u = unit_in c.args.unit.now.bytes.now c.args.unit.now.shape in
    let whole = unit_complete c.args.unit.now.bytes.now c.args.unit.now.shape c.args.unit.now.stands in
    λ new. omega (arith, put_room u whole c.args.unit.now.stands.few_inputs c.args.unit.now.stands.few_states c.args.queue.now c.args.places.now _ c.args.tail c.requires.searching c.next-next.result.0 (omega (arith, c.next-next.ensures.1, c.table-table.ensures.1)) new, c.args.unit.now.stands.few_states)

pub returns : goal.returns
returns c =
    let u = unit_in c.args.unit.now.bytes.now c.args.unit.now.shape in
    let whole = unit_complete c.args.unit.now.bytes.now c.args.unit.now.shape c.args.unit.now.stands in
    search_put u whole c.args.unit.now.stands.few_inputs c.args.unit.now.stands.few_states c.args.queue.now c.args.places.now c.args.head c.args.input.0 c.args.tail c.requires.searching c.requires.head_lt_tail.0 c.requires.head_lt_tail.1 c.next-next.result.0 (omega (arith, c.next-next.ensures.1, c.table-table.ensures.1)) (c.next-next.ensures.0 ∙ ap (λ (M : Machine). M.next c.state_at.result.0 c.args.input.0) c.table-table.ensures.2 ∙ ap (λ q. (unit u).next q c.args.input.0) c.state_at.ensures) _ _ _ c.put.ensures
