use Prim.Native.Nat.{◌+◌, ◌-◌}
use mathlib.Core.Path.{◌≡◌}
use native.Mathlib.Omega.{arith}
use mathlib.Core.Path.{sym, ◌∙◌}
use Rattle.reader.specs.Turns.{word_turn}
use Rattle.builder_grower.proofs.Covering.{covering_start, covering_ready, covering_full, covering_next, grown_full, grown_nodes, listed_separators}
use Rattle.soundness.proofs.Sized.{bound_near}
use Rattle.builder_grower.proofs.cover.grow_covers.Goals as goal

pub longest_middle-left-requires : goal.longest_middle-left-requires
longest_middle-left-requires c = bound_near _ _ c.requires.lent.0

pub start-nodes-requires-clause-label_nonzero : goal.start-nodes-requires-clause-label_nonzero
start-nodes-requires-clause-label_nonzero c = (omega (arith, c.requires.label_len.0), omega (arith, c.requires.label_len.0))

pub start-nodes-requires-clause-first_len : goal.start-nodes-requires-clause-first_len
start-nodes-requires-clause-first_len c = (c.requires.label_len.1 ∙ sym c.requires.label_len.0, c.requires.label_len.2 ∙ sym c.requires.label_len.0)

pub loop-init : goal.loop-init
loop-init c =
    let whole : c.args.x.covers - 0 ≡ c.args.x.covers = omega arith in
    rw whole (c.requires.lent.0.stands.cover, covering_start _ _ _ _ _ _ _ _ _ c.start-nodes.ensures.1 c.start-nodes.ensures.0 c.clear_marks.ensures)

pub grow_cover-requires-clause-whole : goal.grow_cover-requires-clause-whole
grow_cover-requires-clause-whole c = ((word_turn _ _ _ (c.args.x.covers - c.loop.counter) (omega (arith, c.loop-test.true)) c.loop.invariant.0).here.inside, listed_separators _ _ _ _ c.requires.lent.2 c.requires.lent.1)

pub grow_cover-requires-clause-ready : goal.grow_cover-requires-clause-ready
grow_cover-requires-clause-ready c = covering_ready _ _ _ _ c.loop.invariant.1

pub grow_cover-requires-clause-left_bound : goal.grow_cover-requires-clause-left_bound
grow_cover-requires-clause-left_bound c = (omega (arith, c.longest_middle-left.ensures.1), omega (arith, c.requires.label_len.0, c.requires.label_len.3, c.loop.auto.label, c.loop.auto.done, c.start-nodes.auto.label, c.clear_marks.auto.marks))

pub returns-in_err-nodes : goal.returns-in_err-nodes
returns-in_err-nodes c = λ d reads. rw c.from_residual.ensures (grown_full _ _ c.requires.lent.0 _ _ c.requires.lent.2 _ c.longest_middle-left.ensures.0 d reads c.grow_cover.new.label (omega (arith, c.grow_cover.auto.label, c.loop.auto.label, c.start-nodes.auto.label, c.requires.label_len.0))
    (covering_full _ _ _ _ _ _ _ (omega (arith, c.loop-test.true)) c.loop.invariant.0 _ _ _ _ _ c.loop.invariant.1 _ _ _ _ _ c.grow_cover.ensures c.in_err-nodes.was))

pub word_end-word-requires : goal.word_end-word-requires
word_end-word-requires c = (word_turn _ _ _ (c.args.x.covers - c.loop.counter) (omega (arith, c.loop-test.true)) c.loop.invariant.0).here.inside

pub loop-preserved : goal.loop-preserved
loop-preserved c =
    let less : c.args.x.covers - (c.loop.counter + 1) ≡ c.args.x.covers - c.loop.counter - 1 = omega arith in
    rw (less, c.word_end-word.ensures.0) (
      (word_turn _ _ _ (c.args.x.covers - c.loop.counter) (omega (arith, c.loop-test.true)) c.loop.invariant.0).rest,
      covering_next _ _ _ _ _ _ _ (omega (arith, c.loop-test.true)) c.loop.invariant.0 _ _ _ _ _ c.loop.invariant.1 _ _ _ _ _ c.grow_cover.ensures _ c.in_ok-nodes.was,
    )

pub returns : goal.returns
returns c = λ d reads. grown_nodes _ _ c.requires.lent.0 _ _ c.requires.lent.2 _ c.longest_middle-left.ensures.0 d reads _ _ _ _ _ _ _ (omega (arith, c.loop-test.false)) c.loop.invariant.1
