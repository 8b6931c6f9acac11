use mathlib.Core.Path.{◌≡◌, ap}
use native.Mathlib.Omega.{arith}
use Rattle.rules.specs.declared.Middle.{Middle}
use Rattle.middles.specs.Places.{past_length}
use Rattle.middles.proofs.Growth.{this_length, more_length}
use Rattle.middles.proofs.+middle_from.Goals as goal

-- `middle_from`. The words of one length are passed over. The measure is the lengths left.
pub grown_to-requires : goal.grown_to-requires
grown_to-requires t c = let none : c.no_inputs.result.len ≡ 0 = ap (λ (y : Middle). y.len) c.no_inputs.ensures in
    (omega (arith, c.requires.2), c.requires.0, c.requires.1, omega (arith, c.words_of-words.ensures.0))

pub returns-then-x-words : goal.returns-then-x-words
returns-then-x-words t c = this_length c.args.inputs c.args.len c.args.left c.args.x _ c.words_of-words.ensures.0 _ _ c.no_inputs.ensures c.grown_to.ensures (omega arith)

pub overflow_sub-left : goal.overflow_sub-left
overflow_sub-left t c = let more = past_length c.args.inputs c.args.len c.args.x _ c.words_of-words.ensures.0 c.args.left (omega arith) c.requires.3 in
    omega (arith, more.0)

pub middle_from-requires : goal.middle_from-requires
middle_from-requires t c = let more = past_length c.args.inputs c.args.len c.args.x _ c.words_of-words.ensures.0 c.args.left (omega arith) c.requires.3 in
    (omega (arith, c.decreases, more.0), (c.requires.0, c.requires.1, omega (arith, c.requires.2, more.0), more.1))

pub returns : goal.returns
returns t c = more_length c.args.inputs c.args.len c.args.left c.args.x _ c.words_of-words.ensures.0 _ (omega arith) c.requires.3 c.middle_from.ensures
