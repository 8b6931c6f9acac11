-- Laws of the sum that cost answers.
use Prim.Native.Nat.{ℕ, ◌+◌, ◌-◌, ◌≤◌, ◌<◌}
use native.Mathlib.Omega.{arith}
use mathlib.Core.Path.{◌≡◌, sym, ◌∙◌, ap}
use Rattle.std.proofs.Common.{Result, Ok, Err}
use mathlib.Core.List.{List, map}
use lib.ListN.{length}
use Rattle.rules.specs.declared.Costed.TheVariants.{Cost, Refused as CostRefused}
use Rattle.rules.specs.declared.Refusal.{Refusal}
use Rattle.rules.specs.Lists.{sum}
use Rattle.rules.specs.Words.{Word}
use Rattle.rules.specs.Files.{DossierData}
use Rattle.rules.specs.Operations.{fine, read_dossier}
use Rattle.rules.specs.Promises.{CostPromise}
use Rattle.reader.specs.declared.DossierShape.{DossierShape}
use Rattle.reader.specs.Shapes.{dossier_read}
use Rattle.reader.specs.Places.{word_at, after_word, words_at, WordsAt}
use Rattle.reader.specs.Standing.{DossierStands}
use Rattle.reader.specs.Turns.{words_count}
use Rattle.walker.proofs.Turns.{turn, turns_end}
use Rattle.reader.proofs.Held.{dossier_held, dossier_not_held}
use Rattle.runner.specs.Costs.{lengths}

-- The lengths of the i words that were passed and of those that are left, from p on, make up the whole.
module _ (s : List ℕ) (p c i whole passed : ℕ) (so_far : whole ≡ passed + lengths (words_at s p (c - i))) where
  pub sum_next : (k n q : ℕ) → i < c → WordsAt s p k (c - i) → n ≡ length (word_at s p) → q ≡ after_word s p → whole ≡ passed + n + lengths (words_at s q (c - (i + 1)))
  unfolding lengths
  sum_next k n q more stand e place =
      let next : lengths (words_at s p (c - i)) ≡ n + lengths (words_at s q (c - (i + 1))) = rw ((turn s p k c i more stand).words, sym e, sym place) in
      omega (arith, so_far, next)

  pub sum_end : c ≤ i → passed ≡ whole
  unfolding lengths
  sum_end done =
      let empty : lengths (words_at s p (c - i)) ≡ 0 = rw (turns_end s p c i done) in
      omega (arith, so_far, empty)

module _ (s : List ℕ) (r : Result DossierShape Refusal) (e : r ≡ dossier_read (read_dossier s)) where
  pub cost_refused : (f : Refusal) → r ≡ Err f → CostPromise s (CostRefused f)
  cost_refused f is = rw (dossier_not_held s r f e is)

  module _ (x : DossierShape) (is : r ≡ Ok x) where
    pub tests_stand : WordsAt s x.tests x.inputs x.count
    tests_stand = (dossier_held s r x e is).2.tests

    pub cost_held : (n : ℕ) → n ≡ lengths (words_at s x.tests x.count) → CostPromise s (Cost x.count n)
    unfolding lengths
    cost_held n total = go (dossier_held s r x e is)
      where
        go : (d : DossierData) × (read_dossier s ≡ fine d) × DossierStands s x d → CostPromise s (Cost x.count n)
        go (d, reads, stands) =
            let count : x.count ≡ length d.tests = sym (words_count s x.tests x.count) ∙ ap (λ (ws : List Word). length ws) stands.tests_words in
            let sum_is : n ≡ sum (map (λ (w : Word). length w) d.tests) = total ∙ ap lengths stands.tests_words in
            rw (reads, count, sum_is)
