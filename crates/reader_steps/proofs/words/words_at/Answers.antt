use Rattle.std.proofs.Common.{◌∙◌, rules}
use Rattle.rules.specs.Reading.{word, words}
use Rattle.theory.specs.Sections.{reads_word}
use Rattle.reader_steps.specs.Steps.{stepping}
use Rattle.reader_steps.proofs.Laws.{keeps, cut, passed_on, repeated_many}
use Rattle.reader_steps.proofs.Sections.{the_count, words_read}
use Rattle.reader_steps.proofs.words.words_at.Goals as goal

pub returns-in_err-count : goal.returns-in_err-count
unfolding words
returns-in_err-count c = cut _ _ _ _ _ _ c.from_residual.ensures.1 c.in_err-count.ensures

pub returns-in_err-next : goal.returns-in_err-next
unfolding words
returns-in_err-next c = let s = c.args.bytes.now in
    let one = word c.args.inputs c.args.most in
    rw (the_count _ _ _ _ c.in_ok-count.ensures) (passed_on _ _ _ _ _ c.from_residual-in_err-next.ensures.1
    (c.in_err-next.ensures (stepping one s) (λ q r small post. search rules) ∙ repeated_many one s (keeps (reads_word c.args.inputs c.args.most) s) _ _))

pub returns : goal.returns
returns c = let s = c.args.bytes.now in
    let one = word c.args.inputs c.args.most in
    words_read _ _ _ _ _ _ _ c.in_ok-count.ensures
    (c.in_ok-next.ensures (stepping one s) (λ q r small post. search rules) ∙ repeated_many one s (keeps (reads_word c.args.inputs c.args.most) s) _ _)
