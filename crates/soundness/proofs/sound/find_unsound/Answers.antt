use Rattle.std.proofs.Common.{ap, not}
use borrow.Author.Tests.{not-true, not-false}
use Rattle.soundness.proofs.Soundness.{finds_seven, finds_eight, finds_nine, finds_ten, finds_none}
use Rattle.soundness.proofs.sound.find_unsound.Goals as goal

pub returns-then-not-has_empty_word : goal.returns-then-not-has_empty_word
returns-then-not-has_empty_word c = finds_seven c.args.bytes.now c.args.x c.requires _ c.has_empty_word.ensures (not-true _ (ap not c.if-not-has_empty_word.true))

pub returns-in-Some : goal.returns-in-Some
returns-in-Some c =
    let e = c.standing-golden.ensures in
    finds_eight c.args.bytes.now c.args.x c.requires _ c.has_empty_word.ensures (not-false _ (ap not c.if-not-has_empty_word.false)) _ (rw (e.0, e.1, e.2, e.3) at c.in-Some.ensures)

pub returns-then-x-eq0 : goal.returns-then-x-eq0
returns-then-x-eq0 c =
    let e = c.standing-golden.ensures in
    finds_nine c.args.bytes.now c.args.x c.requires _ c.has_empty_word.ensures (not-false _ (ap not c.if-not-has_empty_word.false)) (rw (e.0, e.1, e.2, e.3) at c.in_default.ensures) c.if-x-eq0.true

pub returns-in-Some-unseparated : goal.returns-in-Some-unseparated
returns-in-Some-unseparated c =
    let e = c.standing-golden.ensures in
    finds_ten c.args.bytes.now c.args.x c.requires _ c.has_empty_word.ensures (not-false _ (ap not c.if-not-has_empty_word.false)) (rw (e.0, e.1, e.2, e.3) at c.in_default.ensures) c.if-x-eq0.false _ _ c.in-Some-unseparated.ensures

pub returns-in-None : goal.returns-in-None
returns-in-None c =
    let e = c.standing-golden.ensures in
    finds_none c.args.bytes.now c.args.x c.requires _ c.has_empty_word.ensures (not-false _ (ap not c.if-not-has_empty_word.false)) (rw (e.0, e.1, e.2, e.3) at c.in_default.ensures) c.if-x-eq0.false c.in-None.ensures
