-- Document 01, "Run" and "Cost": each answer is given exactly when its sentence holds and nothing earlier does.
use Rattle.std.specs.Prelude.{ℕ, ◌≤◌, ◌<◌, ◌≡◌, refl, ◌↔◌, ◌≢◌, List, map, eqb, leb, length}
use Rattle.std.proofs.Math.Logic.{inl, inr}
use borrow.Author.Tests.{eqb-true, eqb-false, eq-eqb, ne_eqb, leb-true, leb-false, le-leb, lt-leb}
use Rattle.rules.specs.declared.Refusal.{Refusal}
use Rattle.rules.specs.declared.Refusal.TheVariants.{OtherInputs, TooManyStates}
use Rattle.rules.specs.declared.Ran.{Ran}
use Rattle.rules.specs.declared.Ran.TheVariants.{Passes, Fails, Refused}
use Rattle.rules.specs.declared.Costed.{Costed}
use Rattle.rules.specs.declared.Costed.TheVariants.{Cost, Refused as CostRefused}
use Rattle.rules.specs.Lists.{◌∈◌, sum}
use Rattle.rules.specs.Words.{Word}
use Rattle.rules.specs.Machines.{answer}
use Rattle.rules.specs.Files.{DossierData, UnitData, golden, unit, bound}
use Rattle.rules.specs.Operations.{fine, refuse, read_dossier, read_unit, check, Trial, run, failing_of, run_answer, cost_answer}
use Rattle.theory.specs.Lists.{outcome, optional}
use Rattle.theory.specs.Outcomes.{settled, Settles}
use Rattle.theory.specs.Check.{Accepts, CheckRefuses, check_accepts, check_refuses}
use Rattle.theory.specs.Steps.{FirstStep, first_step, step_first, FirstUnlike, unlike_found, found_unlike, none-unlike, alike_none}

-- an accepted dossier and a unit that it can try
pub record Tries (dossier_file unit_file : List ℕ) (d : DossierData) (u : UnitData) : Type 0 where
  pub accepted : Accepts dossier_file d
  pub reads : read_unit unit_file ≡ fine u
  pub same_inputs : d.inputs ≡ u.inputs
  pub few_states : u.states ≤ bound d

-- run's order: all of check, then the unit's 1 to 6, then 15, 16
pub data RunRefuses (dossier_file unit_file : List ℕ) (r : Refusal) : Type 0 where
  unchecked : CheckRefuses dossier_file r → RunRefuses dossier_file unit_file r
  malformed_unit : (d : DossierData) → Accepts dossier_file d → read_unit unit_file ≡ refuse r → RunRefuses dossier_file unit_file r
  fifteen : (d : DossierData) (u : UnitData) → Accepts dossier_file d → read_unit unit_file ≡ fine u → d.inputs ≢ u.inputs → r ≡ OtherInputs
      → RunRefuses dossier_file unit_file r
  sixteen : (d : DossierData) (u : UnitData) → Accepts dossier_file d → read_unit unit_file ≡ fine u → d.inputs ≡ u.inputs → bound d < u.states
      → r ≡ TooManyStates → RunRefuses dossier_file unit_file r

module _ (dossier_file unit_file : List ℕ) where
  run_gives : Settles (λ t. Tries dossier_file unit_file t.dossier t.unit) (RunRefuses dossier_file unit_file) (run dossier_file unit_file)
  unfolding run
  run_gives =
      elim (settled (check dossier_file)) [
        | inr (r, e) ↦ rw e (unchecked ((check_refuses dossier_file r).0 e))
        | inl (d, e) ↦
            let a = (check_accepts dossier_file d).0 e in
            rw e
            (elim (settled (read_unit unit_file)) [
              | inr (r, e') ↦ rw e' (malformed_unit d a e')
              | inl (u, reads) ↦
                  rw reads
                  (elim (outcome (eqb d.inputs u.inputs)) [
                    | inr other ↦ rw other (fifteen d u a reads (eqb-false _ _ other) refl)
                    | inl same ↦
                        rw same
                        (elim (outcome (leb u.states (bound d))) [
                          | inr many ↦ rw many (sixteen d u a reads (eqb-true _ _ same) (leb-false _ _ many) refl)
                          | inl few ↦
                              rw few
                              (record { accepted = a; reads = reads; same_inputs = eqb-true _ _ same; few_states = leb-true _ _ few })
                        ])
                  ])
            ])
      ]

  -- The trial goes ahead exactly where nothing refuses it.
  pub run_tries : (t : Trial) → (run dossier_file unit_file ≡ fine t) ↔ Tries dossier_file unit_file t.dossier t.unit
  unfolding run
  run_tries t = (
    λ e. rw e at run_gives,
    λ h. rw ((check_accepts dossier_file t.dossier).1 h.accepted, h.reads, eq-eqb _ _ h.same_inputs, le-leb _ _ h.few_states),
  )

  gives_run : (r : Refusal) → RunRefuses dossier_file unit_file r → run dossier_file unit_file ≡ refuse r
  unfolding run
  gives_run r (unchecked h) = rw ((check_refuses dossier_file r).1 h)
  gives_run r (malformed_unit d a e) = rw ((check_accepts dossier_file d).1 a, e)
  gives_run r (fifteen d u a reads other is) = rw ((check_accepts dossier_file d).1 a, reads, ne_eqb _ _ other, is)
  gives_run r (sixteen d u a reads same many is) = rw ((check_accepts dossier_file d).1 a, reads, eq-eqb _ _ same, lt-leb _ _ many, is)

  pub run_refuses : (r : Refusal) → (run dossier_file unit_file ≡ refuse r) ↔ RunRefuses dossier_file unit_file r
  run_refuses r = (λ e. rw e at run_gives, gives_run r)

-- when each answer of run is given
abbrev pub RunGives : List ℕ → List ℕ → Ran → Type 0
RunGives dossier_file unit_file (Passes n) =
    (d : DossierData) × (u : UnitData) × Tries dossier_file unit_file d u × (n ≡ length d.tests) × ((t : Word) → t ∈ d.tests → answer (golden d) t ≡ answer (unit u) t)
RunGives dossier_file unit_file (Fails i j) =
    (d : DossierData) × (u : UnitData) × (t : Word) × Tries dossier_file unit_file d u × FirstUnlike (answer (golden d)) (answer (unit u)) d.tests i t × FirstStep (answer (golden d) t) (answer (unit u) t) j
RunGives dossier_file unit_file (Refused r) = RunRefuses dossier_file unit_file r

pub run_exactly : (dossier_file unit_file : List ℕ) (r : Ran) → (run_answer dossier_file unit_file ≡ r) ↔ RunGives dossier_file unit_file r
run_exactly dossier_file unit_file r = (λ e. rw e at gives, given r)
  where
    gives : RunGives dossier_file unit_file (run_answer dossier_file unit_file)
    gives =
        elim (settled (run dossier_file unit_file)) [
          | inr (r, e) ↦ rw e ((run_refuses dossier_file unit_file r).0 e)
          | inl (t, e) ↦
              let d = t.dossier in
              let u = t.unit in
              let tries = (run_tries dossier_file unit_file t).0 e in
              let f = answer (golden d) in
              let g = answer (unit u) in
              rw e
              (elim (optional (failing_of t)) [
                | inl passes ↦ rw passes (d, u, tries, refl, none-unlike f g d.tests passes)
                | inr ((i, w), fails) ↦
                    let first = unlike_found f g d.tests fails in
                    rw fails (d, u, w, tries, first, first_step (f w) (g w) first.unlike)
              ])
        ]

    given : (r : Ran) → RunGives dossier_file unit_file r → run_answer dossier_file unit_file ≡ r
    given (Passes n) (d, u, tries, count, alike) =
        rw ((run_tries dossier_file unit_file (record { dossier = d; unit = u })).1 tries, alike_none (answer (golden d)) (answer (unit u)) d.tests alike, count)
    given (Fails i j) (d, u, t, tries, first, step) =
        rw ((run_tries dossier_file unit_file (record { dossier = d; unit = u })).1 tries, found_unlike (answer (golden d)) (answer (unit u)) d.tests first, step_first (answer (golden d) t) (answer (unit u) t) j step)
    given (Refused r) h = rw ((run_refuses dossier_file unit_file r).1 h)

-- when each answer of cost is given: the count of tests and the sum of their lengths
abbrev pub CostGives : List ℕ → Costed → Type 0
CostGives bytes (Cost n l) = (d : DossierData) × (read_dossier bytes ≡ fine d) × (n ≡ length d.tests) × (l ≡ sum (map (λ (t : Word). length t) d.tests))
CostGives bytes (CostRefused r) = read_dossier bytes ≡ refuse r

pub cost_exactly : (bytes : List ℕ) (r : Costed) → (cost_answer bytes ≡ r) ↔ CostGives bytes r
cost_exactly bytes r = (λ e. rw e at gives, given r)
  where
    gives : CostGives bytes (cost_answer bytes)
    gives = elim (settled (read_dossier bytes)) [ inl (d, e) ↦ rw e (d, e, refl, refl) | inr (r, e) ↦ rw e e ]

    given : (r : Costed) → CostGives bytes r → cost_answer bytes ≡ r
    given (Cost n l) (d, reads, count, total) = rw (reads, count, total)
    given (CostRefused r) e = rw e
