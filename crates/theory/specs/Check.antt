-- Document 01, "Check" and "Needed words": ACCEPTED is the six clauses, and each refusal of 1 to 11 is given exactly when its
-- sentence holds and nothing earlier does.
use Rattle.std.specs.Prelude.{ℕ, ◌<◌, ◌≡◌, refl, ◌↔◌, List}
use Rattle.std.proofs.Common.{arith, sym, ◌∙◌}
use Rattle.std.proofs.Math.Decide.{dec_lt}
use Rattle.std.proofs.Math.Logic.{inl, inr}
use Rattle.rules.specs.declared.Refusal.{Refusal}
use Rattle.rules.specs.declared.Refusal.TheVariants.{Missing}
use Rattle.rules.specs.declared.Checked.{Checked}
use Rattle.rules.specs.declared.Checked.TheVariants.{Accepted, Refused}
use Rattle.rules.specs.Lists.{◌∈◌}
use Rattle.rules.specs.Words.{Word, Begins}
use Rattle.rules.specs.Files.{DossierData}
use Rattle.rules.specs.Needed.{IsNeeded, IsAccepted, missing}
use Rattle.rules.specs.Answers.{middle_of}
use Rattle.rules.specs.Operations.{fine, refuse, read_dossier, sound, enough, check, check_answer}
use Rattle.theory.specs.Lists.{optional}
use Rattle.theory.specs.Outcomes.{settled, fine_injective, Settles}
use Rattle.theory.specs.Sound.{Sound, SoundRefuses, sound_refuses, sound-fine}
use Rattle.theory.specs.Missing.{Begun, FirstMissing, none-missing, begun_none, some-missing, missing-some}

module _ (d : DossierData) where
  -- A dossier is accepted exactly when none of 7 to 10 holds and every needed word begins a test.
  pub accepted_sound : IsAccepted d → Sound d
  accepted_sound a =
      record {
        empty_word = a.empty_word;
        reached = a.reached;
        separator = a.separator;
        told = λ p q less h. a.separated p q (omega arith) h (λ e. omega arith);
      }

  pub sound_accepted : Sound d → ((w : Word) → IsNeeded d w → Begun d w) → IsAccepted d
  sound_accepted s begun =
      record {
        empty_word = s.empty_word;
        reached = s.reached;
        separator = s.separator;
        separated = λ p q hp hq ne.
            elim (dec_lt p q) [
              | yes less ↦ s.told p q less hq
              | no more ↦
                  let less : q < p = elim (dec_lt q p) [ yes h ↦ h | no n ↦ absurd (ne (omega arith)) ] in
                  let (w, m, h) = s.told q p less hp in
                  (w, m, λ e. h (sym e))
            ];
        tested = begun;
      }

  -- 11 with its sentence
  pub record EnoughRefuses (r : Refusal) : Type 0 where
    pub cover_place : ℕ
    pub middle : Word
    pub separator_place : ℕ
    pub first : FirstMissing d cover_place middle separator_place
    pub is : r ≡ Missing cover_place (middle_of middle) separator_place

  enough_gives : Settles (λ x. (w : Word) → IsNeeded d w → Begun d w) EnoughRefuses (enough d)
  unfolding enough
  enough_gives =
      elim (optional (missing d)) [
        | inl e ↦ rw e (none-missing d e)
        | inr (x, e) ↦
            rw e
            (record {
              cover_place = x.cover_place;
              middle = x.middle;
              separator_place = x.separator_place;
              first = some-missing d e;
              is = refl;
            })
      ]

  gives_enough : (r : Refusal) → EnoughRefuses r → enough d ≡ refuse r
  unfolding enough
  gives_enough r e = rw (missing-some d e.cover_place e.middle e.separator_place e.first, e.is)

  begun_enough : ((w : Word) → IsNeeded d w → Begun d w) → enough d ≡ fine tt
  unfolding enough
  begun_enough h = rw (begun_none d h)

-- the bytes are well formed, hold the dossier d, and d is accepted
abbrev pub Accepts : List ℕ → DossierData → Type 0
Accepts bytes d = (read_dossier bytes ≡ fine d) × IsAccepted d

-- check's order: 1 to 6 as met, then 7 to 10, then 11
pub data CheckRefuses (bytes : List ℕ) (r : Refusal) : Type 0 where
  malformed : read_dossier bytes ≡ refuse r → CheckRefuses bytes r
  unsound : (d : DossierData) → read_dossier bytes ≡ fine d → SoundRefuses d r → CheckRefuses bytes r
  eleven : (d : DossierData) → read_dossier bytes ≡ fine d → Sound d → EnoughRefuses d r → CheckRefuses bytes r

module _ (bytes : List ℕ) where
  check_gives : Settles (Accepts bytes) (CheckRefuses bytes) (check bytes)
  unfolding check
  check_gives =
      elim (settled (read_dossier bytes)) [
        | inr (r, e) ↦ rw e (malformed e)
        | inl (d, reads) ↦
            rw reads
            (elim (settled (sound d)) [
              | inr (r, e) ↦ rw e (unsound d reads ((sound_refuses d r).0 e))
              | inl (x, e) ↦
                  rw e
                  (elim (settled (enough d)) [
                    | inr (r, e') ↦ rw e' (eleven d reads ((sound-fine d).0 e) (rw e' at (enough_gives d)))
                    | inl (y, e') ↦ rw e' (reads, sound_accepted d ((sound-fine d).0 e) (rw e' at (enough_gives d)))
                  ])
            ])
      ]

  -- Check accepts exactly the dossiers that document 01 calls accepted.
  pub check_accepts : (d : DossierData) → (check bytes ≡ fine d) ↔ Accepts bytes d
  unfolding check
  check_accepts d = (
    λ e. rw e at check_gives,
    λ (reads, a). rw (reads, (sound-fine d).1 (accepted_sound d a), begun_enough d a.tested),
  )

  gives_check : (r : Refusal) → CheckRefuses bytes r → check bytes ≡ refuse r
  unfolding check
  gives_check r (malformed e) = rw e
  gives_check r (unsound d e s) = rw (e, (sound_refuses d r).1 s)
  gives_check r (eleven d e s x) = rw (e, (sound-fine d).1 s, gives_enough d r x)

  -- Each refusal of 1 to 11 is given exactly when its sentence holds and nothing earlier does.
  pub check_refuses : (r : Refusal) → (check bytes ≡ refuse r) ↔ CheckRefuses bytes r
  check_refuses r = (λ e. rw e at check_gives, gives_check r)

-- when each answer of check is given
abbrev pub CheckGives : List ℕ → Checked → Type 0
CheckGives bytes Accepted = (d : DossierData) × Accepts bytes d
CheckGives bytes (Refused r) = CheckRefuses bytes r

pub check_exactly : (bytes : List ℕ) (r : Checked) → (check_answer bytes ≡ r) ↔ CheckGives bytes r
check_exactly bytes r = (λ e. rw e at gives, given r)
  where
    gives : CheckGives bytes (check_answer bytes)
    gives =
        elim (settled (check bytes)) [
          | inl (d, e) ↦ rw e (d, (check_accepts bytes d).0 e)
          | inr (r, e) ↦ rw e ((check_refuses bytes r).0 e)
        ]

    given : (r : Checked) → CheckGives bytes r → check_answer bytes ≡ r
    given Accepted (d, a) = rw ((check_accepts bytes d).1 a)
    given (Refused r) h = rw ((check_refuses bytes r).1 h)

-- If some needed word begins no test, check does not accept.
pub missing_refused : (bytes : List ℕ) (d : DossierData) → read_dossier bytes ≡ fine d → (w : Word) → IsNeeded d w → ((t : Word) → t ∈ d.tests → ¬ Begins w t)
    → (r : Refusal) × (check_answer bytes ≡ Refused r)
missing_refused bytes d reads w needed unbegun =
    elim (settled (check bytes)) [
      | inr (r, e) ↦ (r, rw e)
      | inl (d', e) ↦
          let (reads', a) = (check_accepts bytes d').0 e in
          let same : d' ≡ d = fine_injective (sym reads' ∙ reads) in
          let (t, m, b) = (rw same at a).tested w needed in
          absurd (unbegun t m b)
    ]
