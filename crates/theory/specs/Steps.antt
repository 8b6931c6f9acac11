-- "The first step that differs", and the first test in dossier order that two machines, or a machine and a sheet, answer
-- differently.
use Rattle.std.specs.Prelude.{ℕ, zero, suc, ◌<◌, ◌≡◌, refl, ◌≢◌, List, [], ◌∷◌, Bool, false, not}
use Rattle.std.proofs.Common.{arith, sym, ap, eq-eqb, ne_eqb}
use Rattle.std.proofs.Math.Decide.{ℕ_discrete, dec_lt}
use Rattle.std.proofs.Math.Option.{none, some}
use Rattle.std.proofs.lemmas.Bool.{not-true, not-false}
use Rattle.std.proofs.Math.ListN.{get_elem?}
use Rattle.rules.specs.Lists.{◌∈◌, placed, first}
use Rattle.rules.specs.Words.{Word, same}
use Rattle.rules.specs.Operations.{first_difference}
use Rattle.theory.specs.Lists.{At, in_at, at_in, some_injective, none_not_some, found_at, at_found, none_at, at_none}
use Rattle.theory.specs.Words.{same_true, same_refl, same_false, differ_same}

-- two answers differ at step j and at no earlier one
pub record FirstStep (as' bs : List ℕ) (j : ℕ) : Type 0 where
  pub differs : get_elem? as' j ≢ get_elem? bs j
  pub earlier : (i : ℕ) → i < j → get_elem? as' i ≡ get_elem? bs i

pub first_step : (as' bs : List ℕ) → as' ≢ bs → FirstStep as' bs (first_difference as' bs)
first_step [] [] ne = absurd (ne refl)
first_step [] (b ∷ bs) ne = record { differs = none_not_some; earlier = λ i h. absurd (omega arith) }
first_step (a ∷ as') [] ne = record { differs = λ e. none_not_some (sym e); earlier = λ i h. absurd (omega arith) }
first_step (a ∷ as') (b ∷ bs) ne =
    elim (ℕ_discrete a b) [
      | yes e ↦
          let step = first_step as' bs (λ h. ne (cc)) in
          rw (eq-eqb a b e)
          (record {
            differs = step.differs;
            earlier = elim [ zero ↦ λ h. ap some e | suc i ↦ λ h. step.earlier i (omega arith) ];
          })
      | no n ↦ rw (ne_eqb a b n) (record { differs = λ e. n (some_injective e); earlier = λ i h. absurd (omega arith) })
    ]

pub step_differs : {as' bs : List ℕ} {j : ℕ} → FirstStep as' bs j → as' ≢ bs
step_differs {as'} {bs} {j} step e = step.differs (ap (λ (l : List ℕ). get_elem? l j) e)

pub step_first : (as' bs : List ℕ) (j : ℕ) → FirstStep as' bs j → first_difference as' bs ≡ j
step_first as' bs j step =
    let mine = first_step as' bs (step_differs step) in
    elim (dec_lt (first_difference as' bs) j) [
      | yes less ↦ absurd (mine.differs (step.earlier (first_difference as' bs) less))
      | no more ↦
          elim (dec_lt j (first_difference as' bs)) [
            | yes less ↦ absurd (step.differs (mine.earlier j less))
            | no same ↦ omega arith
          ]
    ]

-- the test t at place i has two answers, and no earlier test has
pub record FirstUnlike (f g : Word → List ℕ) (tests : List Word) (i : ℕ) (t : Word) : Type 0 where
  pub here : At tests i t
  pub unlike : f t ≢ g t
  pub earlier : (j : ℕ) (v : Word) → j < i → At tests j v → f v ≡ g v

module _ (f g : Word → List ℕ) (tests : List Word) where
  -- the test of the rules that finds it
  abbrev unlike : ℕ × Word → Bool
  unlike (i, t) = not (same (f t) (g t))

  alike_false : (t : Word) → f t ≡ g t → not (same (f t) (g t)) ≡ false
  alike_false t e = rw (e, same_refl (g t))

  false_alike : (t : Word) → not (same (f t) (g t)) ≡ false → f t ≡ g t
  false_alike t e = same_true (f t) (g t) (not-false _ e)

  pub unlike_found : {i : ℕ} {t : Word} → first unlike (placed tests) ≡ some (i, t) → FirstUnlike f g tests i t
  unlike_found e =
      let found = found_at unlike tests e in
      record {
        here = found.here;
        unlike = same_false (not-true _ found.passes);
        earlier = λ j v h at. false_alike v (found.earlier j v h at);
      }

  pub found_unlike : {i : ℕ} {t : Word} → FirstUnlike f g tests i t → first unlike (placed tests) ≡ some (i, t)
  found_unlike {i} {t} u =
      at_found unlike tests
      (record {
        here = u.here;
        passes = rw (differ_same u.unlike);
        earlier = λ j v h at. alike_false v (u.earlier j v h at);
      })

  pub none-unlike : first unlike (placed tests) ≡ none → (t : Word) → t ∈ tests → f t ≡ g t
  none-unlike e t m = let (i, at) = in_at m in false_alike t (none_at unlike tests e i t at)

  pub alike_none : ((t : Word) → t ∈ tests → f t ≡ g t) → first unlike (placed tests) ≡ none
  alike_none h = at_none unlike tests (λ i t at. alike_false t (h t (at_in tests i at)))
