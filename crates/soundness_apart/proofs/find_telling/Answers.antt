use Rattle.std.proofs.Common.{sym, ◌∙◌, ap, not}
use borrow.Author.Tests.{not-true, not-false}
use Rattle.rules.specs.Lists.{◌∈◌}
use Rattle.rules.specs.Words.{Word}
use Rattle.walker.proofs.Turns.{turn}
use Rattle.soundness_apart.specs.Separating.{golden_at, separators_at, alike_on}
use Rattle.soundness_reach.proofs.Sections.{word_member, rest_members, all_next, all_end}
use Rattle.soundness_apart.proofs.find_telling.Goals as goal

pub returns-then-not-answers_alike : goal.returns-then-not-answers_alike
returns-then-not-answers_alike c =
    let Separator : Word → Type 0 = λ v. v ∈ separators_at c.args.bytes.now c.args.x in (
      record {
        stands = (turn _ _ _ _ _ c.loop-test.true c.loop.invariant.stand).here;
        member = word_member _ _ _ _ _ c.loop-test.true c.loop.invariant.stand Separator c.loop.invariant.members;
      },
      sym c.answers_alike.ensures ∙ not-true _ (ap not c.if-not-answers_alike.true),
    )

pub loop-preserved : goal.loop-preserved
loop-preserved c =
    let test = alike_on (golden_at c.args.bytes.now c.args.x) c.args.p.0 c.args.q.0 in
    let Separator : Word → Type 0 = λ v. v ∈ separators_at c.args.bytes.now c.args.x in
    record {
      stand = rw c.word_end-word.ensures.0 (turn _ _ _ _ _ c.loop-test.true c.loop.invariant.stand).rest;
      members = rw c.word_end-word.ensures.0 (rest_members _ _ _ _ _ c.loop-test.true c.loop.invariant.stand Separator c.loop.invariant.members);
      same = c.loop.invariant.same ∙ rw c.word_end-word.ensures.0 (all_next _ _ _ _ _ c.loop-test.true c.loop.invariant.stand test (sym c.answers_alike.ensures ∙ not-false _ (ap not c.if-not-answers_alike.false)));
    }

pub returns : goal.returns
returns c =
    let test = alike_on (golden_at c.args.bytes.now c.args.x) c.args.p.0 c.args.q.0 in
    c.loop.invariant.same ∙ all_end _ _ _ _ test c.loop-test.false
