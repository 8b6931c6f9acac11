use mathlib.Core.Path.{◌∙◌}
use native.Mathlib.Omega.{arith}
use lib.ListN.{length-set}
use Rattle.trie_lister.proofs.Writes.{emit_full, emit_done}
use Rattle.trie_lister.proofs.emit.Goals as goal

pub returns-then-out-at : goal.returns-then-out-at
returns-then-out-at c = emit_full c.args.path.now c.args.out.now c.args.n c.args.at c.requires.0 c.if-out-at.true c.requires.2

pub copy-requires : goal.copy-requires
copy-requires c = (c.requires.0, simp length-set (omega (arith, c.requires.2, c.if-out-at.false)))

pub shape_of-out : goal.shape_of-out
shape_of-out c = c.copy.auto.out ∙ simp length-set

pub returns : goal.returns
returns c = emit_done c.args.path.now c.args.out.now c.args.n c.args.at c.requires.0 _ c.if-out-at.false (c.copy.auto.out ∙ simp length-set) c.copy.ensures
