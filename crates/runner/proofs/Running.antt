-- Laws of run's order: all of check, the unit's 1 to 6, then 15 and 16.
use Prim.Native.Nat.{ℕ, ◌≤◌, ◌<◌}
use native.Mathlib.Omega.{arith}
use mathlib.Core.Path.{◌≡◌, sym, ◌∙◌}
use Rattle.std.proofs.Common.{Result, Ok, Err}
use mathlib.Core.List.{List}
use borrow.Author.Tests.{eq-eqb, ne_eqb, le-leb, lt-leb}
use Rattle.rules.specs.declared.Refusal.{Refusal}
use Rattle.rules.specs.declared.Refusal.TheVariants.{OtherInputs, TooManyStates}
use Rattle.rules.specs.declared.Ran.TheVariants.{Refused as RunRefused}
use Rattle.rules.specs.Sizes.{bound_of}
use Rattle.rules.specs.Files.{UnitData, bound}
use Rattle.rules.specs.Operations.{fine, read_unit, check, run, run_answer}
use Rattle.rules.specs.Promises.{RunPromise}
use Rattle.reader.specs.declared.DossierShape.{DossierShape}
use Rattle.reader.specs.declared.UnitShape.{UnitShape}
use Rattle.reader.specs.Shapes.{dossier_read, unit_read}
use Rattle.reader.specs.Standing.{UnitStands}
use Rattle.reader.proofs.Held.{unit_held, unit_not_held}
use Rattle.checker.specs.Accepted.{AcceptedAt}
use Rattle.checker.proofs.Accepting.{not_accepted}
use Rattle.runner_trials.specs.Trials.{TrialAt}

-- what `accept` answered
pub run_unchecked : (s : List ℕ) (r : Result DossierShape Refusal) → r ≡ dossier_read (check s) → (t : List ℕ) (f : Refusal) → r ≡ Err f → RunPromise s t (RunRefused f)
unfolding run
run_unchecked s r e t f is = rw (not_accepted s r e f is)

-- what `read_unit` answered, of a unit for an accepted dossier
module _ (s : List ℕ) (x : DossierShape) (a : AcceptedAt s x) (t : List ℕ) (r : Result UnitShape Refusal) (e : r ≡ unit_read (read_unit t)) where
  pub run_malformed_unit : (f : Refusal) → r ≡ Err f → RunRefused f ≡ run_answer s t
  unfolding run
  run_malformed_unit f is = rw (a.checks, unit_not_held t r f e is)

  module _ (y : UnitShape) (is : r ≡ Ok y) where
    abbrev Held : Type 0
    Held = (u : UnitData) × (read_unit t ≡ fine u) × UnitStands t y u

    pub run_other_inputs : (x.inputs ≡ y.inputs → ⊥) → RunRefused OtherInputs ≡ run_answer s t
    unfolding run
    run_other_inputs other = go (unit_held t r y e is)
      where
        go : Held → RunRefused OtherInputs ≡ run_answer s t
        go (u, reads, stands) = rw (a.checks, reads, ne_eqb a.held.inputs u.inputs (λ h. other (a.stands.inputs ∙ h ∙ sym stands.inputs)))

    module _ (same : x.inputs ≡ y.inputs) (b : ℕ) (b_is : b ≡ bound_of x.states x.bound_byte) where
      same_inputs : (u : UnitData) → UnitStands t y u → a.held.inputs ≡ u.inputs
      same_inputs u stands = sym a.stands.inputs ∙ same ∙ stands.inputs

      bound_is : b ≡ bound a.held
      bound_is = b_is ∙ (λ i. bound_of (a.stands.states i) (a.stands.bound_byte i))

      pub run_too_many_states : b < y.states → RunRefused TooManyStates ≡ run_answer s t
      unfolding run
      run_too_many_states many = go (unit_held t r y e is)
        where
          go : Held → RunRefused TooManyStates ≡ run_answer s t
          go (u, reads, stands) =
              let over : bound a.held < u.states = omega (arith, bound_is, stands.states, many) in
              rw (a.checks, reads, eq-eqb _ _ (same_inputs u stands), lt-leb _ _ over)

      pub trial_at : y.states ≤ b → TrialAt s x t y
      unfolding run
      trial_at few = go (unit_held t r y e is)
        where
          go : Held → TrialAt s x t y
          go (u, reads, stands) =
              let within : u.states ≤ bound a.held = omega (arith, bound_is, stands.states, few) in
              record {
                trial = record { dossier = a.held; unit = u };
                runs = rw (a.checks, reads, eq-eqb _ _ (same_inputs u stands), le-leb _ _ within);
                stands = a.stands;
                unit_stands = stands;
                same_inputs = same;
              }
