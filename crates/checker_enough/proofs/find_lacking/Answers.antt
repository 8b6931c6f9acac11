use Rattle.soundness.proofs.Sized.{few_inputs, bound_near}
use Rattle.checker_enough.proofs.Lacking.{none_tested, begun, none_lacking, some_lacking, lacking_inside}
use Rattle.checker_enough.proofs.find_lacking.Goals as goal

pub returns-then-x-eq0 : goal.returns-then-x-eq0
returns-then-x-eq0 c = none_tested _ _ c.requires.lent c.requires.bytes_value c.if-x-eq0.true _ c.no_inputs.ensures

pub longest_middle-longest-requires : goal.longest_middle-longest-requires
longest_middle-longest-requires c = bound_near _ _ c.requires.lent

pub count-total-requires : goal.count-total-requires
count-total-requires c = let sized = few_inputs _ _ c.requires.lent in (sized.0, sized.1, c.longest_middle-longest.ensures.1)

pub find_lack-requires : goal.find_lack-requires
find_lack-requires c = begun _ _ c.requires.lent c.requires.bytes_value c.if-x-eq0.false _ c.longest_middle-longest.ensures.0 _ c.count-total.ensures.0 c.count-total.ensures.2

pub middle-m-requires : goal.middle-m-requires
middle-m-requires c = let sized = few_inputs _ _ c.requires.lent in (sized.0, sized.1, c.longest_middle-longest.ensures.1, lacking_inside c.args.bytes.now c.args.x _ c.find_lack.ensures _ _ _ c.in-Some.is _ c.longest_middle-longest.ensures.0)

pub returns-in_default : goal.returns-in_default
returns-in_default c = none_lacking c.args.bytes.now c.args.x _ c.find_lack.ensures c.in_default.is

pub returns : goal.returns
returns c = some_lacking c.args.bytes.now c.args.x _ c.find_lack.ensures _ _ _ c.in-Some.is _ c.longest_middle-longest.ensures.0 _ c.middle-m.ensures
