use Rattle.std.proofs.Common.{rules}
use Rattle.std.proofs.lemmas.Iterator.{YieldsList-from_slice, IsFirst-from_position}
use borrow.Author.Tests.{tests}
use Rattle.std.proofs.Common.{◌≡◌, true, false}
use Rattle.std.proofs.Common.{arith}
use Rattle.importer_lines.specs.Lines.{is_feed}
use Rattle.importer_lines.proofs.Scanning.{first_at}
use Rattle.importer_lines.proofs.lines.line_end.Goals as goal

pub returns : goal.returns
returns c =
    record {
      first = first_at is_feed _ _ _ c.requires (omega arith) _ _
          (IsFirst-from_position _ _ _ (λ b. is_feed b ≡ true) (λ b. is_feed b ≡ false) c.position-size.ensures.ran (YieldsList-from_slice _ cc)
          (λ x q k. search (rules, tests)) (λ x q k. search (rules, tests)))
          c.unwrap_or.ensures;
    }
