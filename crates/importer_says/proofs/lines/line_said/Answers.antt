use native.Mathlib.Omega.{arith}
use Rattle.rules.specs.Kiss2.{is_comment}
use Rattle.importer_says.proofs.Saying.{seen, line_empty, line_comment, line_end, line_directive, line_term, line_bad}
use Rattle.importer_says.proofs.lines.line_said.Goals as goal
use Rattle.importer_says.proofs.lines.line_said.Goals.{then-count-eq0-via-then-count-eq0, then-count-eq0-via-else-count-eq0+then-is_comment}

pub returns-then-count-eq0 : goal.returns-then-count-eq0
returns-then-count-eq0 c =
    elim c.then-count-eq0.branch [
      | then-count-eq0-via-then-count-eq0 w ↦ line_empty c.fields_of-count.ensures w.if-count-eq0.true
      | then-count-eq0-via-else-count-eq0+then-is_comment w ↦ line_comment c.fields_of-count.ensures (omega (arith, w.if-count-eq0.false)) (seen is_comment w.bytes_of.ensures w.is_comment.ensures w.if-is_comment.true)
    ]

pub returns-in-1 : goal.returns-in-1
returns-in-1 c = line_end c.fields_of-count.ensures (seen is_comment c.bytes_of.ensures c.is_comment.ensures c.if-is_comment.false) c.in-1.is c.end_said.ensures

pub returns-in-2 : goal.returns-in-2
returns-in-2 c = line_directive c.fields_of-count.ensures (seen is_comment c.bytes_of.ensures c.is_comment.ensures c.if-is_comment.false) c.in-2.is c.directive_said.ensures

pub returns-in-4 : goal.returns-in-4
returns-in-4 c = line_term c.fields_of-count.ensures (seen is_comment c.bytes_of.ensures c.is_comment.ensures c.if-is_comment.false) c.in-4.is c.term_said.ensures

pub returns-in_default : goal.returns-in_default
returns-in_default c = line_bad c.fields_of-count.ensures (seen is_comment c.bytes_of.ensures c.is_comment.ensures c.if-is_comment.false) c.if-count-eq0.false (omega arith) (omega arith) (omega arith)
