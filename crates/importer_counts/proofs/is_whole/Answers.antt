use Rattle.std.proofs.Common.{◌∙◌}
use Rattle.importer_counts.proofs.OneMore.{not_ended, termless, terms_differ, states_decide}
use Rattle.importer_counts.proofs.is_whole.Goals as goal
use Rattle.importer_counts.proofs.is_whole.Goals.{then-not-x-via-then-not-x, then-not-x-via-else-not-x+then-x-eq0}

pub returns-then-not-x : goal.returns-then-not-x
returns-then-not-x c = λ before at names.
    elim c.then-not-x.branch [
      | then-not-x-via-then-not-x w ↦ not_ended before _ at w.if-not-x.true
      | then-not-x-via-else-not-x+then-x-eq0 w ↦ termless before _ at w.if-not-x.false w.if-x-eq0.true
    ]

pub returns-then-agrees : goal.returns-then-agrees
returns-then-agrees c = λ before at names. states_decide before _ at c.if-not-x.false c.if-x-eq0.false _ c.agrees.ensures c.if-agrees.true _ _ names c.agrees-then-agrees.ensures

pub returns-else-agrees : goal.returns-else-agrees
returns-else-agrees c = λ before at names. c.if-agrees.false ∙ terms_differ before _ at c.if-not-x.false c.if-x-eq0.false _ c.agrees.ensures c.if-agrees.false
