use borrow.Author.Rules.{rules}
use Rattle.middles.specs.Places.{from_none}
use Rattle.middles.proofs.middle.Goals as goal

-- `middle`. The middles are the words from no input on.
pub middle_from-requires : goal.middle_from-requires
middle_from-requires c = (search rules, search rules, search rules, rw (from_none c.args.inputs c.args.most) c.requires.3)

pub returns : goal.returns
returns c = rw (← (from_none c.args.inputs c.args.most)) c.middle_from.ensures
