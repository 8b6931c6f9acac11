-- Laws that tie what 1 to 10 and the search for a missing word answer to the rules' check, and what `accept` answers to what the operations
-- that begin with all of check are lent.
use Prim.Native.Nat.{ℕ}
use mathlib.Core.Path.{◌≡◌, refl, sym, ◌∙◌, subst}
use mathlib.Core.List.{List}
use Rattle.rules.specs.declared.Checked.TheVariants.{Accepted, Refused as CheckRefused}
use Rattle.rules.specs.declared.Refusal.{Refusal}
use Rattle.rules.specs.Files.{DossierData}
use Rattle.rules.specs.Operations.{Outcome, fine, refuse, ◌>>◌, enough, check}
use Rattle.rules.specs.Promises.{CheckPromise}
use Rattle.reader.specs.declared.DossierShape.{DossierShape}
use Rattle.std.proofs.Common.{Result, Ok, Err}
use Rattle.std.specs.Result.{IsErrAnd}
use Rattle.std.proofs.lemmas.Result.{err_from_is_err_and}
use Rattle.reader.specs.Shapes.{dossier_shape, dossier_read}
use Rattle.reader.specs.Standing.{DossierStands}
use Rattle.reader.proofs.Held.{dossier_stands}
use Rattle.theory.specs.Check.{check_accepts}
use Rattle.soundness.specs.Lent.{Lent, sound_of, sound_dossier, finding_of}
use Rattle.soundness.proofs.Soundness.{lent_of}
use Rattle.soundness.proofs.Behind.{left_dossier, left_refused}
use Rattle.checker_search.specs.Blocks.{enough_of}
use Rattle.checker.specs.Accepted.{AcceptedAt}

-- what a finding says of its outcome
finding_fine : (o : Outcome (Unit {0})) → Ok tt ≡ finding_of o → o ≡ fine tt
finding_fine (fine y) e = refl
finding_fine (refuse f) e = cc

finding_refused : (o : Outcome (Unit {0})) (f : Refusal) → Err f ≡ finding_of o → o ≡ refuse f
finding_refused (fine y) f e = cc
finding_refused (refuse g) f e = let same : f ≡ g = cc in rw same

-- 1 to 10, and 11 behind them; `?` passes on what refuses the dossier
module _ (s : List ℕ) where
  pub check_refused : (r : Result DossierShape Refusal) (f : Refusal) → IsErrAnd r (λ y. y ≡ f) → Err f ≡ dossier_read (sound_dossier s) → r ≡ dossier_read (check s)
  unfolding check
  check_refused r f passed e =
      let p = err_from_is_err_and r passed in
      rw (p.1, p.2, left_refused s (Err f) e (λ d. ◌>>◌ (enough d) (fine d)) f refl)

  module _ (x : DossierShape) (e : Ok x ≡ dossier_read (sound_dossier s)) where
    pub sound_lent : Lent s x × (sound_of s ≡ fine tt)
    sound_lent =
        let (d, reads, good, shape) = left_dossier s (Ok x) e x refl in
        (lent_of s (Ok x) x (rw (reads, shape)) refl, rw (reads, good))

    pub check_held : Ok tt ≡ finding_of (enough_of s) → Ok x ≡ dossier_read (check s)
    unfolding check
    check_held found =
        let (d, reads, good, shape) = left_dossier s (Ok x) e x refl in
        let all : enough d ≡ fine tt = finding_fine (enough d) (rw reads at found) in
        rw (reads, good, all, shape)

    pub check_found : (r : Result DossierShape Refusal) (f : Refusal) → IsErrAnd r (λ y. y ≡ f) → Err f ≡ finding_of (enough_of s) → r ≡ dossier_read (check s)
    unfolding check
    check_found r f passed bad =
        let p = err_from_is_err_and r passed in
        let (d, reads, good, shape) = left_dossier s (Ok x) e x refl in
        let lacks : enough d ≡ refuse f = finding_refused (enough d) f (rw reads at bad) in
        rw (p.1, p.2, reads, good, lacks)

-- what check answers, by the shape or the refusal that it was made of
shape_of : (o : Outcome DossierData) (x : DossierShape) → Ok x ≡ dossier_read o → (d : DossierData) × (o ≡ fine d) × (dossier_shape d ≡ x)
shape_of (fine d) x e = (d, refl, cc)
shape_of (refuse f) x e = cc

refusal_of : (o : Outcome DossierData) (f : Refusal) → Err f ≡ dossier_read o → o ≡ refuse f
refusal_of (fine d) f e = cc
refusal_of (refuse g) f e = let same : f ≡ g = cc in rw same

-- what `accept` answered
module _ (s : List ℕ) (r : Result DossierShape Refusal) (e : r ≡ dossier_read (check s)) where
  pub accepted_at : (x : DossierShape) → r ≡ Ok x → AcceptedAt s x
  accepted_at x is =
      let (d, checks, shape) = shape_of (check s) x (sym is ∙ e) in
      record { held = d; checks = checks; stands = subst (λ x. DossierStands s x d) shape (dossier_stands s d ((check_accepts s d).0 checks).0) }

  pub not_accepted : (f : Refusal) → r ≡ Err f → check s ≡ refuse f
  not_accepted f is = refusal_of (check s) f (sym is ∙ e)

  pub says_accepted : (x : DossierShape) → r ≡ Ok x → CheckPromise s Accepted
  says_accepted x is = rw (accepted_at x is).checks

  pub says_refused : (f : Refusal) → r ≡ Err f → CheckPromise s (CheckRefused f)
  says_refused f is = rw (not_accepted f is)
