-- The machine that a table holds where it stands (document 01, "The three files").
use Rattle.rules.specs.Machines.{Machine}
use Rattle.reader.specs.Places.{machine_at}
use Rattle.walker.specs.declared.table.Table.{Table}

abbrev pub machine_in : {S : Type 0} → Table S → Machine
machine_in t = machine_at t.bytes.now t.place t.inputs t.states
