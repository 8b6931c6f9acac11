-- The queue: for each pair that was met, the step by which it was met, and the word that the steps to it spell. A step is an
-- entry of the queue and an input, as one number: steps rise by entries, then by inputs.
use Rattle.std.specs.Prelude.{ℕ, zero, suc, ◌+◌, ◌*◌, ◌<◌, ◌/◌, ◌%◌, List, [], ◌∷◌, ◌++◌, cond, eqb, get_or}
use Rattle.rules.specs.Sizes.{most_inputs}
use Rattle.rules.specs.Words.{Word}
use Rattle.comparer_pairs.specs.Pairs.{pairs}

abbrev pub step_of : ℕ → ℕ → ℕ
step_of j i = j * most_inputs + i

abbrev pub entry_of : ℕ → ℕ → ℕ
entry_of step p = step * pairs + p

unfoldable pub pair_at : List ℕ → ℕ → ℕ
pair_at queue j = get_or queue j 0 % pairs

unfoldable pub step_at : List ℕ → ℕ → ℕ
step_at queue j = get_or queue j 0 / pairs

unfoldable pub parent_at : List ℕ → ℕ → ℕ
parent_at queue j = step_at queue j / most_inputs

unfoldable pub input_at : List ℕ → ℕ → ℕ
input_at queue j = step_at queue j % most_inputs

-- the inputs of at most n steps that lead to the entry j; the entry 0 is the start
unfoldable pub spelt : List ℕ → ℕ → ℕ → Word
spelt queue zero j = []
spelt queue (suc n) j = cond (eqb j 0) [] (spelt queue n (parent_at queue j) ++ (input_at queue j ∷ []))

-- the word by which the pair of the entry j was met
unfoldable pub word_to : List ℕ → ℕ → Word
word_to queue j = spelt queue j j

-- each of the first n entries but the start was met from an earlier one
pub record Falls (queue : List ℕ) (n : ℕ) : Type 0 where
  pub earlier : (j : ℕ) → 0 < j → j < n → parent_at queue j < j
