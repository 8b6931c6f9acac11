-- Document 01, "What the proofs owe us": the promises of `build_line`, `find_line` and `import_line` allow one result and one output.
use Rattle.std.specs.Prelude.{ℕ, ◌≡◌, List}
use Rattle.std.proofs.Common.{sym, ◌∙◌}
use Rattle.rules.specs.Operations.{build_answer}
use Rattle.rules.specs.Find.{find_answer}
use Rattle.rules.specs.Kiss2.{read_kiss2_answer}
use Rattle.line.specs.Lines.{Says}
use Rattle.line.specs.OneLine.{one_line}
use Rattle.bureau_lines.specs.declared.BuiltLine.{BuiltLine}
use Rattle.bureau_lines.specs.Lines.{built_line, found_line, imported_line, BuildLinePromise, FindLinePromise, ImportLinePromise}

-- one text and one length make one result
one_result : (said : List ℕ) (r s : BuiltLine) → Says said r.line → Says said s.line → r.length ≡ s.length → r ≡ s
one_result said r s p q long =
    let line = one_line said r.line s.line p q in
    λ i. record { line = line i; length = long i }

-- Any two results that it allows are equal, and so are the outputs.
pub one_build_line : (dossier_file out : List ℕ) (r s : BuiltLine) (left after : List ℕ) → BuildLinePromise dossier_file out r left → BuildLinePromise dossier_file out s after
    → (r ≡ s) × (left ≡ after)
one_build_line d o r s left after p q =
    (one_result (built_line (build_answer d o)) r s p.says q.says (p.length ∙ sym q.length), p.output ∙ sym q.output)

pub one_find_line : (unit_file : List ℕ) (bound : ℕ) (out : List ℕ) (r s : BuiltLine) (left after : List ℕ) → FindLinePromise unit_file bound out r left
    → FindLinePromise unit_file bound out s after → (r ≡ s) × (left ≡ after)
one_find_line u m o r s left after p q =
    (one_result (found_line (find_answer u m o)) r s p.says q.says (p.length ∙ sym q.length), p.output ∙ sym q.output)

pub one_import_line : (text_file out : List ℕ) (r s : BuiltLine) (left after : List ℕ) → ImportLinePromise text_file out r left → ImportLinePromise text_file out s after
    → (r ≡ s) × (left ≡ after)
one_import_line t o r s left after p q =
    (one_result (imported_line (read_kiss2_answer t o)) r s p.says q.says (p.length ∙ sym q.length), p.output ∙ sym q.output)
