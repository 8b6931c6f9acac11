use Rattle.importer_lines.specs.Parts.{bytes_at}
use Rattle.importer_names.proofs.Table.{Others}
use Rattle.importer_names.proofs.find_name.Given as goal

abbrev pub invariant-loop-j : goal.invariant-loop-j
invariant-loop-j l = Others l.names l.lengths (bytes_at l.text l.part) l.j
