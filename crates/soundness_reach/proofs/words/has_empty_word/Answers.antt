use Rattle.std.proofs.Common.{sym, ◌∙◌, ap, []}
use Rattle.rules.specs.Words.{is_in}
use Rattle.walker.proofs.Turns.{turn, turns_end}
use Rattle.soundness_reach.proofs.Sections.{empty_found, empty_next}
use Rattle.soundness_reach.proofs.words.has_empty_word.Goals as goal

pub returns-then-word_length-eq0 : goal.returns-then-word_length-eq0
returns-then-word_length-eq0 c = sym (c.loop.invariant.same ∙ empty_found _ _ _ _ _ c.loop-test.true c.loop.invariant.stand (sym c.word_length.ensures.0 ∙ c.if-word_length-eq0.true))

pub loop-preserved : goal.loop-preserved
loop-preserved c = record {
  stand = rw c.word_end-word.ensures.0 (turn _ _ _ _ _ c.loop-test.true c.loop.invariant.stand).rest;
  same = c.loop.invariant.same ∙ rw c.word_end-word.ensures.0 (empty_next _ _ _ _ _ c.loop-test.true c.loop.invariant.stand (λ e. c.if-word_length-eq0.false (c.word_length.ensures.0 ∙ e)));
}

pub returns : goal.returns
returns c = sym (c.loop.invariant.same ∙ ap (λ ws. is_in [] ws) (turns_end _ _ _ _ c.loop-test.false))
