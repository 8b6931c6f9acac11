-- Two machines that answer alike every word of at most n + u - 1 inputs answer every word alike.
use Rattle.std.specs.Prelude.{◌≡◌, ℕ, ◌+◌, ◌-◌, ◌≤◌, length}
use mathlib.Core.List.{List-discrete}
use Rattle.std.proofs.Math.Decide.{ℕ_discrete}
use Rattle.rules.specs.Words.{Word, Valid}
use Rattle.rules.specs.Machines.{Machine, Complete, answer}
use Rattle.theory.proofs.Telling.{short_telling}

module _ (k : ℕ) (G U : Machine) (complete-G : Complete k G) (complete-U : Complete k U) where
  -- If they answer alike every word of at most n + u - 1 inputs, they answer alike every word.
  pub alike_everywhere : ((v : Word) → Valid k v → length v ≤ G.states + U.states - 1 → answer G v ≡ answer U v)
      → (w : Word) → Valid k w → answer G w ≡ answer U w
  alike_everywhere alike w valid =
      elim (List-discrete ℕ_discrete (answer G w) (answer U w)) [
        | yes e ↦ e
        | no differ ↦ let (v, valid_v, short, told) = short_telling k G U complete-G complete-U w valid differ in absurd (told (alike v valid_v short))
      ]
