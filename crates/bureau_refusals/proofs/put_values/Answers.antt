use Rattle.line_writer.proofs.Lines.{feed_closes}
use Rattle.bureau_refusals.proofs.Closings.{middle_valid}
use Rattle.bureau_refusals.proofs.put_values.Goals as goal

pub put_missing-requires-clause-valid : goal.put_missing-requires-clause-valid
put_missing-requires-clause-valid c = middle_valid _ _ _ _ c.requires.fits c.in-Missing.is

pub returns-in-NoEmptyWord : goal.returns-in-NoEmptyWord
returns-in-NoEmptyWord c = rw c.in-NoEmptyWord.is (feed_closes c.put_line_feed.ensures)

pub returns-in-NoSeparator : goal.returns-in-NoSeparator
returns-in-NoSeparator c = rw c.in-NoSeparator.is (feed_closes c.put_line_feed-in-NoSeparator.ensures)

pub returns-in-NotSeparated : goal.returns-in-NotSeparated
returns-in-NotSeparated c = rw (c.in-NotSeparated.is, ← c.number-in-NotSeparated.ensures, ← c.number-in-NotSeparated-2.ensures) c.put_two.ensures

pub returns-in-OtherInputs : goal.returns-in-OtherInputs
returns-in-OtherInputs c = rw c.in-OtherInputs.is (feed_closes c.put_line_feed-in-OtherInputs.ensures)

pub returns-in-TooManyStates : goal.returns-in-TooManyStates
returns-in-TooManyStates c = rw c.in-TooManyStates.is (feed_closes c.put_line_feed-in-TooManyStates.ensures)
