use mathlib.Core.Path.{◌∙◌}
use Rattle.checker_ways.proofs.Ways.{tests_told}
use Rattle.trie.specs.Model.{holding}
use Rattle.checker_ways.proofs.begun.Goals as goal

pub returns : goal.returns
returns c = λ tests some h less. c.is_some.ensures ∙ tests_told tests some _ _ _ less (c.walk_word.ensures (holding tests) h less)
