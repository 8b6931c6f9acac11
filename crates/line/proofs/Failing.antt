-- Laws of a test that fails: what stands at its place, and what its line says.
use Prim.Native.Nat.{ℕ, ◌≤◌, ◌<◌}
use native.Mathlib.Omega.{arith}
use mathlib.Core.Path.{◌≡◌, sym, ◌∙◌, ap}
use mathlib.Core.List.{List, [], ◌∷◌}
use lib.ListN.{length, get_or}
use Rattle.rules.specs.Words.{Word, Valid}
use Rattle.rules.specs.Machines.{machine_of, answer}
use Rattle.rules.specs.Files.{golden, unit}
use Rattle.rules.specs.Line.{run_line}
use Rattle.theory.specs.Lists.{At, at_in, at_below, some_injective}
use Rattle.reader.specs.declared.DossierShape.{DossierShape}
use Rattle.reader.specs.declared.UnitShape.{UnitShape}
use Rattle.reader.specs.Places.{machine_at, word_at, words_at}
use Rattle.reader.specs.Turns.{words_count}
use Rattle.line.specs.Lines.{fails_of, FailingAt}

pub valid_wider : (k m : ℕ) (w : Word) → k ≤ m → Valid k w → Valid m w
valid_wider k m [] wider valid = tt
valid_wider k m (a ∷ w) wider (below, valid) = (omega arith, valid_wider k m w wider valid)

module _ {s : List ℕ} {x : DossierShape} {t : List ℕ} {y : UnitShape} {i j : ℕ} (f : FailingAt s x t y i j) where
  pub failing_number : i < x.count
  failing_number =
      omega (arith, at_below f.dossier.tests i f.here, words_count s x.tests x.count, ap (λ (ws : List Word). length ws) f.stands.tests_words)

  -- the test stands at p
  module _ (p : ℕ) (at : At (words_at s x.tests x.count) i (word_at s p)) where
    test_is : word_at s p ≡ f.test
    test_is = some_injective (sym at ∙ rw f.stands.tests_words f.here)

    pub failing_step : j < length (word_at s p)
    failing_step = rw test_is f.step

    module _ (v : Word) (part : v ≡ word_at s p) where
      pub failing_spelled : (length v < 256) × Valid 16 v
      failing_spelled =
          let sized = f.stands.sized.tests f.test (at_in f.dossier.tests i f.here) in
          rw (part, test_is)
          (omega (arith, sized.1), valid_wider f.dossier.inputs 16 f.test f.stands.sized.golden.few_inputs sized.0)

      -- the machines that stand in the bytes are the golden and the unit
      pub failing_says : (g u : ℕ) → g ≡ get_or (answer (machine_at s x.table x.inputs x.states) (word_at s p)) j 0
          → u ≡ get_or (answer (machine_at t y.table y.inputs y.states) (word_at s p)) j 0 → fails_of i j v g u ≡ run_line s t
      failing_says g u expected given =
          let golden_is : machine_at s x.table x.inputs x.states ≡ golden f.dossier = λ k. machine_of (f.stands.inputs k) (f.stands.states k) (f.stands.entries k) in
          let unit_is : machine_at t y.table y.inputs y.states ≡ unit f.tried = λ k. machine_of (f.unit_stands.inputs k) (f.unit_stands.states k) (f.unit_stands.entries k) in
          let g_is : g ≡ get_or (answer (golden f.dossier) f.test) j 0 = expected ∙ (λ k. get_or (answer (golden_is k) (test_is k)) j 0) in
          let u_is : u ≡ get_or (answer (unit f.tried) f.test) j 0 = given ∙ (λ k. get_or (answer (unit_is k) (test_is k)) j 0) in
          (λ k. fails_of i j ((part ∙ test_is) k) (g_is k) (u_is k)) ∙ sym f.says
