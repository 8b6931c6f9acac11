use Rattle.std.proofs.Common.{arith, ◌∙◌, length, ◌<◌}
use lib.ListN.{length-set}
use Rattle.walker.proofs.Turns.{turn, turns_start}
use Rattle.soundness_reach.proofs.Marks.{unmarked-length, marking_start, marking_next, marking_end}
use Rattle.soundness_reach.proofs.reached.Goals as goal

pub loop-init : goal.loop-init
loop-init c = record {
  stand = turns_start _ _ _ _ c.requires.words_at;
  room = rw c.blank-marks.ensures unmarked-length;
  marking = marking_start _ _ _ _ _ _ _ c.requires.states_bound c.blank-marks.ensures;
}

pub reached_by-state-requires : goal.reached_by-state-requires
reached_by-state-requires c = (turn _ _ _ _ _ c.loop-test.true c.loop.invariant.stand).here

pub word_end-word-requires : goal.word_end-word-requires
word_end-word-requires c = (turn _ _ _ _ _ c.loop-test.true c.loop.invariant.stand).here.inside

pub loop-preserved : goal.loop-preserved
loop-preserved c =
    let inside : c.number.result < length c.loop.marks = omega (arith, c.number.ensures, c.reached_by-state.ensures.1, c.requires.states_bound, c.loop.invariant.room) in
    record {
      stand = rw c.word_end-word.ensures.0 (turn _ _ _ _ _ c.loop-test.true c.loop.invariant.stand).rest;
      room = simp length-set c.loop.invariant.room;
      marking = rw c.word_end-word.ensures.0 (marking_next _ _ _ _ _ _ c.loop.marks _ _ _ _ c.loop-test.true c.loop.invariant.stand (c.number.ensures ∙ c.reached_by-state.ensures.0) inside c.loop.invariant.marking);
    }

pub returns : goal.returns
returns c = marking_end _ _ _ _ _ _ c.loop.marks _ _ _ (c.loop-test.false) c.loop.invariant.marking
