use Prim.Native.Nat.{◌*◌}
use native.Mathlib.Omega.{arith}
use Rattle.theory.specs.Wrote.{wrote_size}
use Rattle.importer_unit.proofs.Holding.{head_long, unit_written}
use Rattle.importer_unit.proofs.writing.write_unit.Goals as goal

pub write_table-requires-clause-tables : goal.write_table-requires-clause-tables
write_table-requires-clause-tables c = c.requires.tables

pub write_table-requires-clause-inputs_in_bounds : goal.write_table-requires-clause-inputs_in_bounds
write_table-requires-clause-inputs_in_bounds c = omega (arith, c.write_head-table.ensures.place, wrote_size c.write_head-table.ensures, head_long c.args.inputs c.args.states (c.args.states * c.args.inputs), c.requires.inputs_in_bounds)

pub returns : goal.returns
returns c = λ names order terms at numbered named all. unit_written c.args.nexts.now c.args.outputs.now c.args.ranks.now c.args.numbers.now names order terms at numbered named c.args.inputs c.args.states c.requires.tables.1 all c.write_head-table.ensures c.write_table.ensures c.requires.inputs_in_bounds
