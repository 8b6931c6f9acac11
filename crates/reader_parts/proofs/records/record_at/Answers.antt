use Rattle.std.proofs.Common.{ℕ, ◌∙◌, sym}
use Rattle.rules.specs.Reading.{word, sheet_record}
use Rattle.rules.specs.Words.{Word}
use Rattle.reader_steps.proofs.Laws.{cut, cut_in}
use Rattle.reader_steps.proofs.Sections.{the_length, the_word}
use Rattle.reader_parts.proofs.Parts.{step_map}
use Rattle.reader_parts.proofs.records.record_at.Goals as goal

pub returns-in_err-length : goal.returns-in_err-length
unfolding sheet_record word
returns-in_err-length c = cut (λ (w : Word) (q : ℕ). q) _ _ _ _ _ c.from_residual.ensures.1 (cut_in _ _ _ _ _ c.in_err-length.ensures)

pub returns-in_err-outputs : goal.returns-in_err-outputs
unfolding sheet_record word
returns-in_err-outputs c =
    rw (the_length _ _ _ _ _ c.in_ok-length.ensures) (cut _ _ _ _ _ _ c.from_residual-in_err-outputs.ensures.1 c.in_err-outputs.ensures)

pub returns : goal.returns
unfolding sheet_record
returns c = let (w, long, read) = the_word _ _ _ _ _ _ _ c.in_ok-length.ensures c.in_ok-outputs.ensures in
    rw (read, long) (c.outputs_at.ensures ∙ sym (step_map _ _))
