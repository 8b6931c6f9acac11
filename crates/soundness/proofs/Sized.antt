-- What the numbers of a dossier that reads well allow.
use Prim.Native.Nat.{ℕ, ◌+◌, ◌≤◌, ◌<◌}
use native.Mathlib.Omega.{arith}
use mathlib.Core.Path.{◌≡◌}
use mathlib.Core.List.{List}
use Rattle.rules.specs.Sizes.{bound_of}
use Rattle.reader.specs.declared.DossierShape.{DossierShape}
use Rattle.soundness.specs.Lent.{Lent}

module _ (s : List ℕ) (x : DossierShape) (lent : Lent s x) where
  pub few_inputs : (0 < x.inputs) × (x.inputs ≤ 16)
  few_inputs =
      let sized = lent.stands.sized.golden in
      (omega (arith, sized.some_input, lent.stands.inputs), omega (arith, sized.few_inputs, lent.stands.inputs))

  pub bound_near : (x.states ≤ bound_of x.states x.bound_byte) × (bound_of x.states x.bound_byte ≤ x.states + 4)
  bound_near =
      let stands = lent.stands in
      let same : bound_of x.states x.bound_byte ≡ bound_of lent.held.states lent.held.bound_byte = λ i. bound_of (stands.states i) (stands.bound_byte i) in
      (omega (arith, same, stands.states, stands.sized.bound_least), omega (arith, same, stands.states, stands.sized.bound_near))
