use mathlib.Core.Path.{sym, ◌∙◌}
use Rattle.importer_reading.proofs.terms.enter_term.Goals as goal

pub returns-then-contradicts : goal.returns-then-contradicts
returns-then-contradicts c = λ names bits terms t at over as-term. record { told = sym (c.contradicts.ensures names bits terms t at over as-term) ∙ c.if-contradicts.true }

pub returns : goal.returns
returns c = λ names bits terms t at over as-term. record { told = (sym (c.contradicts.ensures names bits terms t at over as-term) ∙ c.if-contradicts.false, c.put_term.ensures names bits terms t at as-term) }
