use Rattle.line_writer.proofs.Writing.{putting_start, putting_next, putting_end, hex-length, hex_at, input_valid}
use mathlib.Core.Path.{◌∙◌, sym}
use Rattle.rules.specs.Line.{hex}
use native.Mathlib.Omega.{arith}
use Prim.Native.Nat.{◌<◌}
use lib.ListN.{length}
use Rattle.line_writer.proofs.put_hex.Goals as goal

pub loop-i-init : goal.loop-i-init
loop-i-init c = putting_start (hex c.args.word.now) _ _ (omega (arith, c.requires.word_in_bounds, hex-length c.args.word.now))

pub glyph-requires : goal.glyph-requires
glyph-requires c = let less : c.loop-i.i < length c.args.word.now = omega (arith, c.loop-i-test.true) in input_valid 16 c.args.word.now _ c.requires.valid less

pub bounds-out-at : goal.bounds-out-at
bounds-out-at c = omega (arith, c.loop-i.invariant.size, c.requires.word_in_bounds, c.loop-i-test.true)

pub loop-i-preserved : goal.loop-i-preserved
loop-i-preserved c = let less : c.loop-i.i < length c.args.word.now = omega (arith, c.loop-i-test.true) in putting_next (hex c.args.word.now) _ _ _ _ c.loop-i.invariant _ (omega (arith, hex-length c.args.word.now)) (c.glyph.ensures ∙ sym (hex_at c.args.word.now _ less))

pub returns : goal.returns
returns c = putting_end (hex c.args.word.now) _ _ _ _ c.loop-i.invariant (omega (arith, c.loop-i-test.false, hex-length c.args.word.now)) _ (omega (arith, hex-length c.args.word.now))
