use Rattle.std.proofs.Common.{rules}
use Rattle.std.proofs.lemmas.Iterator.{YieldsList-from_slice, IsFirst-from_position}
use borrow.Author.Tests.{tests}
use Rattle.std.proofs.Common.{◌≡◌, true, false}
use Rattle.rules.specs.Kiss2.{is_gap}
use Rattle.importer_lines.proofs.Scanning.{first_at}
use Rattle.importer_lines.proofs.line_fields.field_end.Goals as goal

pub returns : goal.returns
returns c =
    first_at is_gap _ _ _ c.requires.0 c.requires.1 _ _
    (IsFirst-from_position _ _ _ (λ b. is_gap b ≡ true) (λ b. is_gap b ≡ false) c.position-size.ensures.ran (YieldsList-from_slice _ cc)
    (λ x q k. search (rules, tests)) (λ x q k. search (rules, tests)))
    c.unwrap_or.ensures
