use Rattle.builder_copyist.proofs.Fitted.{planted, full_over}
use Rattle.builder_copyist.proofs.Promised.{over_promise}
use Rattle.builder.proofs.answer.build_in.Goals as goal

pub grow_needed-requires-clause-lent : goal.grow_needed-requires-clause-lent
grow_needed-requires-clause-lent c = c.requires.buildable.lent

pub grow_needed-requires-clause-label_len : goal.grow_needed-requires-clause-label_len
grow_needed-requires-clause-label_len c = c.requires.label_len

pub grow_needed-requires-clause-done_len : goal.grow_needed-requires-clause-done_len
grow_needed-requires-clause-done_len c = c.requires.done_len

pub build_planted-requires : goal.build_planted-requires
build_planted-requires c = planted c.requires.buildable _ _ _ c.grow_needed.result c.grow_needed.ensures _ c.in-Some.is

pub returns-in-None : goal.returns-in-None
returns-in-None c = over_promise c.requires.buildable _ (full_over c.requires.buildable c.grow_needed.new.label c.grow_needed.new.first c.grow_needed.new.next c.grow_needed.result c.grow_needed.ensures c.in-None.is)
