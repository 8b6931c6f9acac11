use Rattle.std.proofs.Common.{◌≡◌, ◌+◌, ◌-◌, arith, ap, ◌∙◌}
use Rattle.rules.specs.Machines.{Machine}
use Rattle.finder_telling.proofs.Reading.{word_next, word_end}
use Rattle.finder_distances.proofs.Rounding.{unit_whole}
use Rattle.finder_distances.specs.Leads.{machine_of_unit}
use Rattle.finder_telling.proofs.words.write_telling.Goals as goal

pub loop-i-preserved : goal.loop-i-preserved
loop-i-preserved c =
    let fewer : c.distance_at-far.result - (c.loop-i.i + 1) ≡ c.distance_at-far.result - c.loop-i.i - 1 = omega arith in
    let on : c.args.at + (c.loop-i.i + 1) ≡ c.args.at + c.loop-i.i + 1 = omega arith in
    rw (c.wide.ensures.0, fewer, on)
    (word_next c.args.unit.now.shape.inputs (machine_of_unit c.args.unit.now.bytes.now c.args.unit.now.shape) (unit_whole c.args.unit.now.bytes.now c.args.unit.now.shape c.args.unit.now.stands) c.args.distances.now (c.args.unit.now.shape.states - 1) c.requires.distances_at.marked c.args.out.now c.args.at c.args.p.0 c.args.q.0 c.loop-i.out c.loop-i.one.0 c.loop-i.other.0 _ _ c.loop-i.invariant (omega (arith, c.loop-i-test.true)) _ _ _ _ c.telling_input-input.ensures.0 c.telling_input-input.ensures.1 c.number.ensures
    (c.next-one.ensures.0 ∙ ap (λ (M : Machine). M.next c.loop-i.one.0 c.telling_input-input.result.0) c.table-table.ensures.2)
    (c.next-other.ensures.0 ∙ ap (λ (M : Machine). M.next c.loop-i.other.0 c.telling_input-input.result.0) c.table-table.ensures.2))

pub returns : goal.returns
returns c =
    let all : c.args.at + c.wide-2.result ≡ c.args.at + c.loop-i.i = omega (arith, c.wide-2.ensures.0, c.loop-i-test.false) in
    rw all (word_end c.args.unit.now.shape.inputs (machine_of_unit c.args.unit.now.bytes.now c.args.unit.now.shape) (unit_whole c.args.unit.now.bytes.now c.args.unit.now.shape c.args.unit.now.stands) c.args.distances.now (c.args.unit.now.shape.states - 1) c.requires.distances_at.marked c.args.out.now c.args.at c.args.p.0 c.args.q.0 c.loop-i.out c.loop-i.one.0 c.loop-i.other.0 _ _ c.loop-i.invariant (omega (arith, c.loop-i-test.false)))
