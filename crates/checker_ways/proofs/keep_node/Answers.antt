use mathlib.Core.Path.{sym}
use lib.Seq.{set_out}
use Rattle.checker_ways.proofs.keep_node.Goals as goal

pub returns-else-y-kept : goal.returns-else-y-kept
returns-else-y-kept c = sym (set_out _ _ _ c.if-y-kept.false)
