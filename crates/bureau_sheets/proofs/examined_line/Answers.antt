use Rattle.bureau_sheets.proofs.Deviating.{agrees_told, refused_told, refused_fits, deviating_at}
use mathlib.Core.Path.{◌∙◌, sym}
use Rattle.bureau_sheets.proofs.examined_line.Goals as goal

pub deviating_line-requires : goal.deviating_line-requires
deviating_line-requires c = deviating_at _ _ _ _ c.requires _ _ _ _ (sym c.in-Deviates.is ∙ c.examine_both.ensures)

pub refused_line-requires : goal.refused_line-requires
refused_line-requires c = refused_fits _ _ _ (sym c.in-Refused.is ∙ c.examine_both.ensures)

pub returns-in-Agrees : goal.returns-in-Agrees
returns-in-Agrees c = rw (← (agrees_told _ _ (sym c.in-Agrees.is ∙ c.examine_both.ensures))) c.plain_line.ensures

pub returns-in-Refused : goal.returns-in-Refused
returns-in-Refused c = rw (← (refused_told _ _ _ (sym c.in-Refused.is ∙ c.examine_both.ensures))) c.refused_line.ensures
