use mathlib.Core.Path.{◌∙◌, ap}
use Rattle.rules.specs.Answers.{file_number, refusing}
use Rattle.hegdorvin_packing.proofs.Laws.{plain_packed}
use Rattle.hegdorvin_packing.proofs.Small.{plain_number, missing_small}
use Rattle.hegdorvin_packing.proofs.refusal.Goals as goal

pub missing-requires : goal.missing-requires
missing-requires c = missing_small _ _ _ (rw c.in-Missing.is at c.requires)

pub plain-requires : goal.plain-requires
plain-requires c = let f = c.requires.plain (plain_number c.args.r c.in_default.not-Missing) in (c.said-s.ensures.1, c.number.ensures.1, rw (← c.said-s.ensures.3) at f.first, rw (← c.said-s.ensures.4) at f.second)

pub returns-in-Missing : goal.returns-in-Missing
returns-in-Missing c = rw c.in-Missing.is c.missing.ensures

pub returns-in_default : goal.returns-in_default
returns-in_default c = plain_packed (refusing c.args.r) _ _ _ _ _ c.plain.ensures c.said-s.ensures.0 (c.number.ensures.0 ∙ ap file_number c.said-s.ensures.2) c.said-s.ensures.3 c.said-s.ensures.4 (rw c.said-s.ensures.0 (plain_number c.args.r c.in_default.not-Missing))
