-- Laws that tie what was found to the rules' compare.
use Prim.Native.Nat.{ℕ}
use mathlib.Core.Path.{◌≡◌, refl, sym, ap, ◌∙◌, subst}
use mathlib.Core.Logic.{◌≢◌}
use mathlib.Core.List.{List, [], ◌∷◌, ◌++◌}
use mathlib.Core.Option.{Option, none, some}
use borrow.Author.Tests.{eq-eqb, ne_eqb}
use Rattle.rules.specs.declared.Input.{Input}
use Rattle.rules.specs.declared.Refusal.{Refusal}
use Rattle.rules.specs.declared.Refusal.TheVariants.{OtherInputs}
use Rattle.rules.specs.declared.Compared.{Compared}
use Rattle.rules.specs.declared.Compared.TheVariants.{Equal as Alike, Refused}
use Rattle.rules.specs.Words.{Word}
use Rattle.rules.specs.Machines.{Machine, Complete, machine_of}
use Rattle.rules.specs.Files.{DossierData, UnitData, golden, unit}
use Rattle.rules.specs.Operations.{read_dossier, read_unit, telling, compare}
use Rattle.rules.specs.Promises.{ComparePromise}
use Rattle.reader.specs.declared.DossierShape.{DossierShape}
use Rattle.reader.specs.declared.UnitShape.{UnitShape}
use Rattle.reader.specs.Shapes.{dossier_read, unit_read}
use Rattle.reader.specs.Places.{machine_at}
use Rattle.reader.proofs.Held.{dossier_held, dossier_not_held, unit_held, unit_not_held}
use Rattle.theory.specs.Machines.{golden_complete}
use Rattle.theory.proofs.Compare.{equal_none, telling_some}
use Rattle.std.specs.Prelude.{Option as Answer, Some, None, Result, Ok, Err}
use Rattle.comparer_pairs.specs.Queue.{word_to}
use Rattle.comparer_search.specs.Search.{Tells, FoundOf}
use Rattle.comparer.specs.Found.{FirstOrNone, Answers, AnswersFirst, Stand}

-- what the search found
module _ (k : ℕ) (G U : Machine) (queue : List ℕ) (r : Answer (ℕ × Input)) (found : FoundOf k G U queue r) where
  pub found_at : (j : ℕ) (i : Input) → r ≡ Some (j, i) → Tells k G U queue j i.0
  found_at j i is = rw is at found

  pub answers_nowhere : (out : List ℕ) → r ≡ None → AnswersFirst k G U out Alike out
  answers_nowhere out is = record { found = none; first = rw is at found; answers = (refl, refl) }

  pub answers_at : (out left : List ℕ) (answer : Compared) (j : ℕ) (i : Input) → r ≡ Some (j, i) → Answers (some (word_to queue j ++ (i.0 ∷ []))) out answer left → AnswersFirst k G U out answer left
  answers_at out left answer j i is answers =
      record { found = some (word_to queue j ++ (i.0 ∷ [])); first = (found_at j i is).first; answers = answers }

module _ (dossier unit_file : List ℕ) (x : DossierShape) (y : UnitShape) (stand : Stand dossier unit_file x y) where
  abbrev d : DossierData
  d = stand.held

  abbrev u : UnitData
  u = stand.uheld

  -- 15
  pub other_inputs : (out : List ℕ) → x.inputs ≢ y.inputs → ComparePromise dossier unit_file out (Refused OtherInputs) out
  unfolding compare
  other_inputs out other =
      let ne : d.inputs ≢ u.inputs = λ e. other (stand.stands.inputs ∙ e ∙ sym stand.ustands.inputs) in
      rw (stand.reads, stand.ureads, ne_eqb d.inputs u.inputs ne) (refl, refl)

  module _ (same : x.inputs ≡ y.inputs) where
    same_inputs : d.inputs ≡ u.inputs
    same_inputs = sym stand.stands.inputs ∙ same ∙ stand.ustands.inputs

    -- the machines that stand in the files are the golden and the unit
    golden_is : machine_at dossier x.table x.inputs x.states ≡ golden d
    golden_is = λ i. machine_of (stand.stands.inputs i) (stand.stands.states i) (stand.stands.entries i)

    unit_is : machine_at unit_file y.table x.inputs y.states ≡ unit u
    unit_is = ap (λ k. machine_at unit_file y.table k y.states) same ∙ (λ i. machine_of (stand.ustands.inputs i) (stand.ustands.states i) (stand.ustands.entries i))

    whole : Complete d.inputs (golden d)
    whole = golden_complete stand.stands.sized.golden

    uwhole : Complete d.inputs (unit u)
    uwhole = subst (λ k. Complete k (unit u)) (sym same_inputs) (golden_complete stand.ustands.sized.machine)

    telling_is : (o : Option Word) → FirstOrNone d.inputs (golden d) (unit u) o → telling d u ≡ o
    unfolding telling
    telling_is none alike = equal_none d.inputs (golden d) (unit u) whole uwhole alike
    telling_is (some w) first = telling_some d.inputs (golden d) (unit u) whole uwhole w first

    pub first_answers : (out left : List ℕ) (r : Compared) → AnswersFirst x.inputs (machine_at dossier x.table x.inputs x.states) (machine_at unit_file y.table x.inputs y.states) out r left
        → ComparePromise dossier unit_file out r left
    unfolding compare
    first_answers out left r a =
        let first : FirstOrNone d.inputs (golden d) (unit u) a.found =
        subst (λ k. FirstOrNone k (golden d) (unit u) a.found) stand.stands.inputs
        (subst (λ G. FirstOrNone x.inputs G (unit u) a.found) golden_is
        (subst (λ U. FirstOrNone x.inputs (machine_at dossier x.table x.inputs x.states) U a.found) unit_is a.first)) in
        rw (stand.reads, stand.ureads, eq-eqb d.inputs u.inputs same_inputs, telling_is a.found first, a.answers.0, a.answers.1) (refl, refl)

-- what the readers answered
module _ (dossier unit_file : List ℕ) (r : Result DossierShape Refusal) (read : r ≡ dossier_read (read_dossier dossier)) where
  pub malformed : (out : List ℕ) (f : Refusal) → r ≡ Err f → ComparePromise dossier unit_file out (Refused f) out
  unfolding compare
  malformed out f is = rw (dossier_not_held dossier r f read is) (refl, refl)

  module _ (x : DossierShape) (holds : r ≡ Ok x) (t : Result UnitShape Refusal) (uread : t ≡ unit_read (read_unit unit_file)) where
    pub malformed_unit : (out : List ℕ) (f : Refusal) → t ≡ Err f → ComparePromise dossier unit_file out (Refused f) out
    unfolding compare
    malformed_unit out f is =
        let (d, reads, stands) = dossier_held dossier r x read holds in
        rw (reads, unit_not_held unit_file t f uread is) (refl, refl)

    pub both_stand : (y : UnitShape) → t ≡ Ok y → Stand dossier unit_file x y
    both_stand y uholds =
        let (d, reads, stands) = dossier_held dossier r x read holds in
        let (u, ureads, ustands) = unit_held unit_file t y uread uholds in
        record { held = d; reads = reads; stands = stands; uheld = u; ureads = ureads; ustands = ustands }
