use mathlib.Core.Path.{refl}
use Rattle.middles.specs.Places.{longer_word}
use Rattle.middles.proofs.grown.Goals as goal

-- `grown`. The five fields, and then the word by cases of its length.
pub returns-clause-value : goal.returns-clause-value
returns-clause-value c = λ w e h.
    longer_word _ _ _ _ _ _ w _ e h c.put.ensures c.put-2.ensures c.put-3.ensures c.put-4.ensures c.put-5.ensures

pub returns-clause-len_value : goal.returns-clause-len_value
returns-clause-len_value c = refl
