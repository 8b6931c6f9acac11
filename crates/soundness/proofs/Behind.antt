-- What 1 to 10 leave to an operation that goes on behind them: the dossier with its shape; or their refusal, which is then its own.
use Prim.Native.Nat.{ℕ}
use native.Mathlib.Omega.{arith}
use mathlib.Core.Path.{◌≡◌, sym, ap, ◌∙◌}
use mathlib.Core.Logic.{◌⊎◌, inl, inr}
use mathlib.Core.List.{List}
use Rattle.rules.specs.declared.Refusal.{Refusal}
use Rattle.rules.specs.Files.{DossierData}
use Rattle.rules.specs.Operations.{Outcome, fine, refuse, ◌>>=◌, ◌>>◌, read_dossier, sound}
use Rattle.theory.specs.Outcomes.{settled}
use Rattle.reader.specs.declared.DossierShape.{DossierShape}
use Rattle.std.proofs.Common.{Result, Ok, Err}
use Rattle.reader.specs.Shapes.{dossier_shape, dossier_read}
use Rattle.soundness.specs.Lent.{sound_dossier}

-- 1 to 10 refuse, or they leave a dossier
abbrev Stage : List ℕ → Type 0
Stage s = ((f : Refusal) × (sound_dossier s ≡ refuse f)) ⊎ ((d : DossierData) × (read_dossier s ≡ fine d) × (sound d ≡ fine tt))

stage : (s : List ℕ) → Stage s
stage s = go (settled (read_dossier s))
  where
    behind : (d : DossierData) → read_dossier s ≡ fine d → ((y : Unit {0}) × (sound d ≡ fine y)) ⊎ ((f : Refusal) × (sound d ≡ refuse f)) → Stage s
    behind d reads (inl (y, good)) = inr (d, reads, good)
    behind d reads (inr (f, bad)) = inl (f, rw (reads, bad))

    go : ((d : DossierData) × (read_dossier s ≡ fine d)) ⊎ ((f : Refusal) × (read_dossier s ≡ refuse f)) → Stage s
    go (inl (d, reads)) = behind d reads (settled (sound d))
    go (inr (f, bad)) = inl (f, rw bad)

-- what they refuse is refused, whatever would go on
stops : {A : Type 0} (o : Outcome DossierData) (next : DossierData → Outcome A) (f : Refusal) → ◌>>=◌ o (λ d. ◌>>◌ (sound d) (fine d)) ≡ refuse f
    → ◌>>=◌ o (λ d. ◌>>◌ (sound d) (next d)) ≡ refuse f
stops (refuse g) next f e = let same : g ≡ f = cc in ap refuse same
stops (fine d) next f e = go (sound d) e
  where
    go : (o : Outcome (Unit {0})) → ◌>>◌ o (fine d) ≡ refuse f → ◌>>◌ o (next d) ≡ refuse f
    go (refuse g) e = let same : g ≡ f = cc in ap refuse same
    go (fine y) e = let no : ◌≡◌ {A = ℕ} 0 1 = cc in absurd (omega arith)

refused_not_held : {f : Refusal} {x : DossierShape} → ◌≡◌ {A = Result DossierShape Refusal} (Err f) (Ok x) → ⊥
refused_not_held e = cc

module _ (s : List ℕ) (r : Result DossierShape Refusal) (e : r ≡ dossier_read (sound_dossier s)) where
  pub left_dossier : (x : DossierShape) → r ≡ Ok x → (d : DossierData) × (read_dossier s ≡ fine d) × (sound d ≡ fine tt) × (dossier_shape d ≡ x)
  left_dossier x is = go (stage s)
    where
      go : Stage s → (d : DossierData) × (read_dossier s ≡ fine d) × (sound d ≡ fine tt) × (dossier_shape d ≡ x)
      go (inl (f, bad)) = absurd (refused_not_held (sym (ap dossier_read bad) ∙ sym e ∙ is))
      go (inr (d, reads, good)) =
          let held : dossier_read (sound_dossier s) ≡ Ok (dossier_shape d) = rw (reads, good) in
          let both : ◌≡◌ {A = Result DossierShape Refusal} (Ok (dossier_shape d)) (Ok x) = sym held ∙ sym e ∙ is in
          (d, reads, good, cc)

  pub left_refused : {A : Type 0} (next : DossierData → Outcome A) (f : Refusal) → r ≡ Err f → ◌>>=◌ (read_dossier s) (λ d. ◌>>◌ (sound d) (next d)) ≡ refuse f
  left_refused {A} next f is = stops (read_dossier s) next f (go (stage s))
    where
      go : Stage s → sound_dossier s ≡ refuse f
      go (inl (g, bad)) =
          let both : ◌≡◌ {A = Result DossierShape Refusal} (Err g) (Err f) = sym (ap dossier_read bad) ∙ sym e ∙ is in
          let same : g ≡ f = cc in
          bad ∙ ap refuse same
      go (inr (d, reads, good)) =
          let held : dossier_read (sound_dossier s) ≡ Ok (dossier_shape d) = rw (reads, good) in
          absurd (refused_not_held (sym is ∙ e ∙ held))
