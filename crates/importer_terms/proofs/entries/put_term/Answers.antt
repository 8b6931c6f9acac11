use Rattle.importer_terms.proofs.Entering.{putting_start, putting_next, entries_put}
use mathlib.Core.Path.{◌∙◌}
use native.Mathlib.Omega.{arith}
use Rattle.importer_terms.proofs.entries.put_term.Goals as goal

pub loop-i-init : goal.loop-i-init
loop-i-init c = putting_start _ _ _ _

pub put_entry-requires-clause-term_in : goal.put_entry-requires-clause-term_in
put_entry-requires-clause-term_in c = (c.requires.term_in, omega (arith, c.numbered.ensures, c.loop-i-test.true))

pub put_entry-requires-clause-nexts_len : goal.put_entry-requires-clause-nexts_len
put_entry-requires-clause-nexts_len c = (c.loop-i.invariant.nexts_put.long ∙ c.requires.nexts_len.0, c.loop-i.invariant.outputs_put.long ∙ c.requires.nexts_len.1)

pub loop-i-preserved : goal.loop-i-preserved
loop-i-preserved c = putting_next _ _ _ _ _ _ _ c.loop-i.invariant c.requires.nexts_len.0 c.requires.nexts_len.1 c.requires.term_in.current (omega (arith, c.loop-i-test.true)) _ c.numbered.ensures _ _ c.put_entry.ensures.nexts_after c.put_entry.ensures.outputs_after

pub returns : goal.returns
returns c = λ names bits terms t at as-term. entries_put _ _ _ _ names bits terms t at as-term _ _ _ c.loop-i.invariant (omega (arith, c.loop-i-test.false))
