use Rattle.importer_terms.proofs.Differing.{against_start, against_next, against_found, none_against}
use native.Mathlib.Omega.{arith}
use Rattle.importer_terms.proofs.contradictions.contradicts.Goals as goal

pub loop-i-init : goal.loop-i-init
loop-i-init c = against_start _ _ _ _

pub is_against-requires-clause-term_in : goal.is_against-requires-clause-term_in
is_against-requires-clause-term_in c = (c.requires.term_in, omega (arith, c.numbered.ensures, c.loop-i-test.true))

pub is_against-requires-clause-nexts_len : goal.is_against-requires-clause-nexts_len
is_against-requires-clause-nexts_len c = c.requires.nexts_len

pub returns-then-is_against : goal.returns-then-is_against
returns-then-is_against c = λ names bits terms t at over as-term. against_found _ _ _ _ names bits terms t at over as-term _ _ c.numbered.ensures (omega (arith, c.loop-i-test.true)) _ c.is_against.ensures c.if-is_against.true

pub loop-i-preserved : goal.loop-i-preserved
loop-i-preserved c = against_next _ _ _ _ _ c.loop-i.invariant _ c.numbered.ensures _ c.is_against.ensures c.if-is_against.false

pub returns : goal.returns
returns c = λ names bits terms t at over as-term. none_against _ _ _ _ names bits terms t at over as-term c.requires.term_in.cube_in _ c.loop-i.invariant (omega (arith, c.loop-i-test.false))
