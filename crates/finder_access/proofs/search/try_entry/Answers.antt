use Rattle.std.proofs.Common.{arith}
use Rattle.reader.specs.Standing.{unit_in}
use Rattle.finder_access.proofs.Searching.{unit_complete, search_entry}
use Rattle.finder_access.proofs.search.try_entry.Goals as goal

pub returns : goal.returns
returns c =
    let u = unit_in c.args.unit.now.bytes.now c.args.unit.now.shape in
    let whole = unit_complete c.args.unit.now.bytes.now c.args.unit.now.shape c.args.unit.now.stands in
    (search_entry u whole c.args.unit.now.stands.few_inputs c.args.unit.now.stands.few_states c.loop-i.queue c.loop-i.places c.args.head c.loop-i.i c.loop-i.last c.loop-i-test.false (omega arith) c.loop-i.invariant.searching, c.loop-i.invariant.ahead)
