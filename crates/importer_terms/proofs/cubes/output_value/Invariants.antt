use Rattle.std.proofs.Common.{◌+◌}
use Rattle.importer_terms.proofs.Bits.{Valued}
use Rattle.importer_terms.proofs.cubes.output_value.Given as goal

abbrev pub invariant-loop-byte : goal.invariant-loop-byte
invariant-loop-byte l = Valued l.text l.fn.output.start l.fn.output.end (l.fn.output.start + l.byte-index) l.value
