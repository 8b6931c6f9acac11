-- The golden and the unit that are compared, where they stand in their files.
use Rattle.rules.specs.Machines.{Machine}
use Rattle.reader.specs.Places.{machine_at}
use Rattle.comparer_pairs.specs.declared.Sides.{Sides}

abbrev pub golden_at : Sides → Machine
golden_at x = machine_at x.dossier.now x.table x.inputs x.states

abbrev pub unit_at : Sides → Machine
unit_at x = machine_at x.unit.now x.utable x.inputs x.units
