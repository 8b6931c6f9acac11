use Rattle.std.proofs.Common.{◌+◌, ◌-◌}
use Rattle.finder_telling.proofs.Reading.{Midword}
use Rattle.finder_distances.specs.Leads.{machine_of_unit}
use Rattle.finder_telling.proofs.words.write_telling.Given as goal

abbrev pub invariant-loop-i : goal.invariant-loop-i
invariant-loop-i l = Midword l.fn.unit.shape.inputs (machine_of_unit l.fn.unit.bytes.now l.fn.unit.shape) l.distances l.initial.out l.at l.fn.p.0 l.fn.q.0 l.out l.one.0 l.other.0 (l.far - l.i) (l.at + l.i)
