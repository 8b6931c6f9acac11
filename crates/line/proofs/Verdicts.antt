-- Laws of the line: what it is where run passes, fails or refuses.
use Prim.Native.Nat.{ℕ, zero, suc, ◌<◌}
use native.Mathlib.Omega.{arith}
use mathlib.Core.Path.{◌≡◌, refl, sym, ◌∙◌, subst}
use Rattle.std.proofs.Common.{Result, Ok, Err}
use mathlib.Core.Logic.{◌≢◌}
use mathlib.Core.List.{List, [], ◌∷◌}
use lib.ListN.{length, get_or, get_elem?}
use Rattle.rules.specs.declared.Refusal.{Refusal}
use Rattle.rules.specs.declared.Ran.{Ran}
use Rattle.rules.specs.declared.Ran.TheVariants.{Passes, Fails, Refused as RunRefused}
use Rattle.rules.specs.Words.{Word}
use Rattle.rules.specs.Machines.{Machine, answer, answer_from}
use Rattle.rules.specs.Files.{DossierData, UnitData, golden, unit}
use Rattle.rules.specs.Operations.{fine, read_unit, check, run_answer}
use Rattle.rules.specs.Line.{refusal_line, run_line}
use Rattle.theory.specs.Answers.{run_answer_lem}
use Rattle.theory.specs.Check.{check_accepts}
use Rattle.theory.specs.Steps.{FirstStep, step_first, FirstUnlike, found_unlike, alike_none}
use Rattle.theory.specs.Run.{Tries, RunGives, run_tries, run_refuses, run_exactly}
use Rattle.reader.specs.declared.DossierShape.{DossierShape}
use Rattle.reader.specs.declared.UnitShape.{UnitShape}
use Rattle.reader.specs.Shapes.{dossier_read, unit_read}
use Rattle.reader.specs.Standing.{DossierStands, UnitStands}
use Rattle.reader.proofs.Held.{unit_held}
use Rattle.checker.specs.Accepted.{AcceptedAt}
use Rattle.runner.proofs.Running.{run_unchecked, run_malformed_unit}
use Rattle.line.specs.Lines.{passes_line, fails_of, UnitAt, FailingAt}

-- two answers to a word differ at a step of it
step_inside : (M N : Machine) (p q : ℕ) (w : Word) (j : ℕ) → get_elem? (answer_from M p w) j ≢ get_elem? (answer_from N q w) j → j < length w
step_inside M N p q [] j differ = absurd (differ refl)
step_inside M N p q (a ∷ w) zero differ = omega arith
step_inside M N p q (a ∷ w) (suc j) differ =
    let h = step_inside M N (M.next p a) (N.next q a) w j differ in omega arith

module _ (s t : List ℕ) (r : Ran) (e : r ≡ run_answer s t) where
  pub passes_line_lem : (n : ℕ) → r ≡ Passes n → passes_line n ≡ run_line s t
  unfolding run_line
  passes_line_lem n is = go ((run_exactly s t (Passes n)).0 (sym e ∙ is))
    where
      go : RunGives s t (Passes n) → passes_line n ≡ run_line s t
      go (d, u, tries, count, alike) =
          rw ((run_tries s t (record { dossier = d; unit = u })).1 tries, alike_none (answer (golden d)) (answer (unit u)) d.tests alike, count)

  pub refused_line_lem : (f : Refusal) → r ≡ RunRefused f → refusal_line f ≡ run_line s t
  unfolding run_line
  refused_line_lem f is = rw ((run_refuses s t f).1 ((run_exactly s t (RunRefused f)).0 (sym e ∙ is)))

  module _ (x : DossierShape) (y : UnitShape) (a : AcceptedAt s x) (b : UnitAt t y) where
    pub failing_at : (i j : ℕ) → r ≡ Fails i j → FailingAt s x t y i j
    unfolding run_line
    failing_at i j is = go ((run_exactly s t (Fails i j)).0 (sym e ∙ is))
      where
        line_is : (d : DossierData) (u : UnitData) (w : Word) → Tries s t d u → FirstUnlike (answer (golden d)) (answer (unit u)) d.tests i w → FirstStep (answer (golden d) w) (answer (unit u) w) j
            → run_line s t ≡ fails_of i j w (get_or (answer (golden d) w) j 0) (get_or (answer (unit u) w) j 0)
        line_is d u w tries first step =
            rw ((run_tries s t (record { dossier = d; unit = u })).1 tries, found_unlike (answer (golden d)) (answer (unit u)) d.tests first, step_first (answer (golden d) w) (answer (unit u) w) j step)

        go : RunGives s t (Fails i j) → FailingAt s x t y i j
        go (d, u, w, tries, first, step) =
            let checks : check s ≡ fine d = (check_accepts s d).1 tries.accepted in
            let held : a.held ≡ d = cc a.checks in
            let tried : b.held ≡ u = cc (b.reads, tries.reads) in
            let stands : DossierStands s x d = subst (λ d. DossierStands s x d) held a.stands in
            let unit_stands : UnitStands t y u = subst (λ u. UnitStands t y u) tried b.stands in
            record {
              dossier = d;
              tried = u;
              test = w;
              stands = stands;
              unit_stands = unit_stands;
              same_inputs = stands.inputs ∙ tries.same_inputs ∙ sym unit_stands.inputs;
              here = first.here;
              step = step_inside (golden d) (unit u) 0 0 w j step.differs;
              says = line_is d u w tries first step;
            }

-- what `accept` refused, and what `read_unit` answered of a unit for an accepted dossier
pub unchecked_line : (s t : List ℕ) (r : Result DossierShape Refusal) (f : Refusal) → r ≡ dossier_read (check s) → r ≡ Err f → refusal_line f ≡ run_line s t
unchecked_line s t r f e is = refused_line_lem s t (RunRefused f) (run_answer_lem s t (RunRefused f) (run_unchecked s r e t f is)) f refl

module _ (s : List ℕ) (x : DossierShape) (a : AcceptedAt s x) (t : List ℕ) (r : Result UnitShape Refusal) (e : r ≡ unit_read (read_unit t)) where
  pub malformed_line : (f : Refusal) → r ≡ Err f → refusal_line f ≡ run_line s t
  malformed_line f is = refused_line_lem s t (RunRefused f) (run_malformed_unit s x a t r e f is) f refl

  pub unit_at_lem : (y : UnitShape) → r ≡ Ok y → UnitAt t y
  unit_at_lem y is = let (u, reads, stands) = unit_held t r y e is in record { held = u; reads = reads; stands = stands }
