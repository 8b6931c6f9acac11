use mathlib.Core.Path.{sym}
use native.Mathlib.Omega.{arith}
use Rattle.walker.proofs.Words.{word-length, word_input}
use Rattle.walker.proofs.inputs.input_byte.Goals as goal

pub overflow_add-result-2 : goal.overflow_add-result-2
overflow_add-result-2 c = omega (arith, c.requires.whole, c.requires.step_in_bounds, word-length c.args.bytes.now c.args.word c.requires.whole)

pub bounds-bytes-word : goal.bounds-bytes-word
bounds-bytes-word c = omega (arith, c.requires.whole, c.requires.step_in_bounds, word-length c.args.bytes.now c.args.word c.requires.whole)

pub returns : goal.returns
returns c = sym (word_input _ _ c.requires.whole _ c.requires.step_in_bounds)
