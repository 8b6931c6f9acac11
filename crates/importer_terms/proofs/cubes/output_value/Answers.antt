use Rattle.std.proofs.Common.{◌≡◌, ◌+◌}
use native.Mathlib.Omega.{arith}
use Rattle.importer_terms.proofs.Bits.{valued_start, byte_of, bit_byte, value_small, valued_more, valued_all}
use Rattle.importer_terms.proofs.cubes.output_value.Goals as goal

pub loop-byte-init : goal.loop-byte-init
loop-byte-init c = let first : c.args.output.start + 0 ≡ c.args.output.start = omega arith in rw first (valued_start _ _ _ c.requires.field_in.some_byte c.requires.field_in.inside c.requires.short c.requires.is_output)

pub overflow_mul-value : goal.overflow_mul-value
overflow_mul-value c = let (less, here) = byte_of _ _ _ _ _ c.loop-byte.invariant c.loop-byte-test.true in omega (arith, value_small _ _ _ _ _ c.loop-byte.invariant less)

pub overflow_sub-value : goal.overflow_sub-value
overflow_sub-value c = let (less, here) = byte_of _ _ _ _ _ c.loop-byte.invariant c.loop-byte-test.true in rw here (bit_byte _ _ _ _ _ c.loop-byte.invariant less).0

pub overflow_add-value : goal.overflow_add-value
overflow_add-value c = let (less, here) = byte_of _ _ _ _ _ c.loop-byte.invariant c.loop-byte-test.true in omega (arith, value_small _ _ _ _ _ c.loop-byte.invariant less, (bit_byte _ _ _ _ _ c.loop-byte.invariant less).1)

pub loop-byte-preserved : goal.loop-byte-preserved
loop-byte-preserved c = valued_more _ _ _ _ _ c.loop-byte.invariant c.loop-byte-test.true

pub returns : goal.returns
returns c = valued_all _ _ _ _ _ c.loop-byte.invariant c.loop-byte-test.false
