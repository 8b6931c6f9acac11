-- Document 01, "Judge": each answer is given exactly when its sentence holds and nothing earlier does.
use Rattle.std.specs.Prelude.{ℕ, suc, ◌<◌, ◌≡◌, refl, ◌↔◌, ◌≢◌, List, [], ◌∷◌}
use Rattle.std.proofs.Common.{arith, sym, ◌∙◌, ap}
use Rattle.std.proofs.Math.Logic.{inl, inr}
use mathlib.Core.List.Memᴰ
use Rattle.std.proofs.Math.ListN.{get_elem?}
use Rattle.rules.specs.declared.Refusal.{Refusal}
use Rattle.rules.specs.declared.Judged.{Judged}
use Rattle.rules.specs.declared.Judged.TheVariants.{Agrees, Deviates, Refused}
use Rattle.rules.specs.Lists.{◌∈◌}
use Rattle.rules.specs.Words.{Word}
use Rattle.rules.specs.Machines.{answer}
use Rattle.rules.specs.Files.{DossierData, SheetRecord, golden}
use Rattle.rules.specs.Operations.{fine, refuse, read_sheet, check, pair, recorded_for, Paired, judge, deviating_of, judge_answer}
use Rattle.theory.specs.Lists.{optional, At, at_in, in_at}
use Rattle.theory.specs.Words.{same_refl, differ_same}
use Rattle.theory.specs.Outcomes.{settled, Settles}
use Rattle.theory.specs.Check.{Accepts, CheckRefuses, check_accepts, check_refuses}
use Rattle.theory.specs.Pairing.{NoneRepeated, Belongs, PairRefuses, pair_refuses, pair-fine}
use Rattle.theory.specs.Steps.{FirstStep, first_step, step_first, FirstUnlike, unlike_found, found_unlike, none-unlike, alike_none}

-- Where no word is repeated, the answer that a sheet has for a record's word is that record's.
pub recorded_for_lem : (rs : List SheetRecord) → NoneRepeated rs → (r : SheetRecord) → r ∈ rs → recorded_for rs r.word ≡ r.recorded
recorded_for_lem [] once r m = absurd (Memᴰ.not-nil m)
recorded_for_lem (e ∷ rs) once r m =
    elim (Memᴰ.cases_cons m) [
      | inl h ↦ rw (h, same_refl e.word)
      | inr n ↦
          let (i, at) = in_at n in
          let other : e.word ≢ r.word = λ is. once (suc i) r at (0, e, omega arith, refl, is) in
          rw (differ_same other)
          (recorded_for_lem rs (λ j s at' (j', e', less, at'', is). once (suc j) s at' (suc j', e', omega arith, at'', is)) r n)
    ]

-- an accepted dossier and a sheet that belongs to it
pub record Fits (dossier_file sheet_file : List ℕ) (d : DossierData) (rs : List SheetRecord) : Type 0 where
  pub accepted : Accepts dossier_file d
  pub reads : read_sheet d.inputs sheet_file ≡ fine rs
  pub belongs : Belongs d.tests rs

-- judge's order: all of check, then the sheet's 1, 2, 5, 6 as met, then 12, 13, 14
pub data JudgeRefuses (dossier_file sheet_file : List ℕ) (r : Refusal) : Type 0 where
  unchecked : CheckRefuses dossier_file r → JudgeRefuses dossier_file sheet_file r
  malformed_sheet : (d : DossierData) → Accepts dossier_file d → read_sheet d.inputs sheet_file ≡ refuse r → JudgeRefuses dossier_file sheet_file r
  unpaired : (d : DossierData) (rs : List SheetRecord) → Accepts dossier_file d → read_sheet d.inputs sheet_file ≡ fine rs → PairRefuses d.tests rs r
      → JudgeRefuses dossier_file sheet_file r

-- every record has the golden's answer
abbrev pub AllGolden : DossierData → List SheetRecord → Type 0
AllGolden d rs = (r : SheetRecord) → r ∈ rs → answer (golden d) r.word ≡ r.recorded

-- the test at place i is the first whose recorded answer is not the golden's, and they differ first at step j
pub record FirstDeviating (d : DossierData) (rs : List SheetRecord) (i j : ℕ) : Type 0 where
  pub this : SheetRecord
  pub stands : this ∈ rs
  pub here : At d.tests i this.word
  pub step : FirstStep (answer (golden d) this.word) this.recorded j
  pub earlier : (i' : ℕ) (r : SheetRecord) → i' < i → r ∈ rs → At d.tests i' r.word → answer (golden d) r.word ≡ r.recorded

module _ (dossier_file sheet_file : List ℕ) where
  judge_gives : Settles (λ p. Fits dossier_file sheet_file p.dossier p.records) (JudgeRefuses dossier_file sheet_file) (judge dossier_file sheet_file)
  unfolding judge
  judge_gives =
      elim (settled (check dossier_file)) [
        | inr (r, e) ↦ rw e (unchecked ((check_refuses dossier_file r).0 e))
        | inl (d, e) ↦
            let a = (check_accepts dossier_file d).0 e in
            rw e
            (elim (settled (read_sheet d.inputs sheet_file)) [
              | inr (r, e') ↦ rw e' (malformed_sheet d a e')
              | inl (rs, reads) ↦
                  rw reads
                  (elim (settled (pair d.tests rs)) [
                    | inr (r, e') ↦ rw e' (unpaired d rs a reads ((pair_refuses d.tests rs r).0 e'))
                    | inl (x, e') ↦ rw e' (record { accepted = a; reads = reads; belongs = (pair-fine d.tests rs).0 e' })
                  ])
            ])
      ]

  -- The sheet is judged exactly where nothing refuses it.
  pub judge_fits : (p : Paired) → (judge dossier_file sheet_file ≡ fine p) ↔ Fits dossier_file sheet_file p.dossier p.records
  unfolding judge
  judge_fits p = (
    λ e. rw e at judge_gives,
    λ f. rw ((check_accepts dossier_file p.dossier).1 f.accepted, f.reads, (pair-fine p.dossier.tests p.records).1 f.belongs),
  )

  gives_judge : (r : Refusal) → JudgeRefuses dossier_file sheet_file r → judge dossier_file sheet_file ≡ refuse r
  unfolding judge
  gives_judge r (unchecked h) = rw ((check_refuses dossier_file r).1 h)
  gives_judge r (malformed_sheet d a e) = rw ((check_accepts dossier_file d).1 a, e)
  gives_judge r (unpaired d rs a reads h) = rw ((check_accepts dossier_file d).1 a, reads, (pair_refuses d.tests rs r).1 h)

  pub judge_refuses : (r : Refusal) → (judge dossier_file sheet_file ≡ refuse r) ↔ JudgeRefuses dossier_file sheet_file r
  judge_refuses r = (λ e. rw e at judge_gives, gives_judge r)

-- when each answer of the judge is given
abbrev pub JudgeGives : List ℕ → List ℕ → Judged → Type 0
JudgeGives dossier_file sheet_file Agrees = (d : DossierData) × (rs : List SheetRecord) × Fits dossier_file sheet_file d rs × AllGolden d rs
JudgeGives dossier_file sheet_file (Deviates i j) =
    (d : DossierData) × (rs : List SheetRecord) × Fits dossier_file sheet_file d rs × FirstDeviating d rs i j
JudgeGives dossier_file sheet_file (Refused r) = JudgeRefuses dossier_file sheet_file r

module _ (d : DossierData) (rs : List SheetRecord) (belongs : Belongs d.tests rs) where
  -- the two answers to a test
  abbrev true_answer : Word → List ℕ
  true_answer = answer (golden d)

  abbrev sheet_answer : Word → List ℕ
  sheet_answer = recorded_for rs

  -- records have the golden's answer exactly where their words do
  recorded_golden : (r : SheetRecord) → r ∈ rs → (true_answer r.word ≡ sheet_answer r.word) ↔ (true_answer r.word ≡ r.recorded)
  recorded_golden r m = let is = recorded_for_lem rs belongs.once r m in (λ e. e ∙ is, λ e. e ∙ sym is)

  none_deviating : ((t : Word) → t ∈ d.tests → true_answer t ≡ sheet_answer t) → AllGolden d rs
  none_deviating h r m = (recorded_golden r m).0 (h r.word (belongs.known r m))

  golden_none : AllGolden d rs → (t : Word) → t ∈ d.tests → true_answer t ≡ sheet_answer t
  golden_none h t m = let (r, n, is) = belongs.whole t m in rw (← is) ((recorded_golden r n).1 (h r n))

  unlike_deviating : (i : ℕ) (t : Word) (j : ℕ) → FirstUnlike true_answer sheet_answer d.tests i t → FirstStep (true_answer t) (sheet_answer t) j → FirstDeviating d rs i j
  unlike_deviating i t j u step =
      let (r, m, is) = belongs.whole t (at_in d.tests i u.here) in
      let recorded : sheet_answer t ≡ r.recorded = ap sheet_answer (sym is) ∙ recorded_for_lem rs belongs.once r m in
      record {
        this = r;
        stands = m;
        here = rw is u.here;
        step = rw (is, ← recorded) step;
        earlier = λ i' s less n at. (recorded_golden s n).0 (u.earlier i' s.word less at);
      }

  deviating_unlike : (i j : ℕ) (f : FirstDeviating d rs i j) → FirstUnlike true_answer sheet_answer d.tests i f.this.word
  deviating_unlike i j f =
      record {
        here = f.here;
        unlike = λ e. f.step.differs (ap (λ (l : List ℕ). get_elem? l j) ((recorded_golden f.this f.stands).0 e));
        earlier = λ i' v less at.
            let (s, n, is) = belongs.whole v (at_in d.tests i' at) in
            rw (← is) ((recorded_golden s n).1 (f.earlier i' s less n (rw is at)));
      }

pub judge_exactly : (dossier_file sheet_file : List ℕ) (r : Judged) → (judge_answer dossier_file sheet_file ≡ r) ↔ JudgeGives dossier_file sheet_file r
judge_exactly dossier_file sheet_file r = (λ e. rw e at gives, given r)
  where
    gives : JudgeGives dossier_file sheet_file (judge_answer dossier_file sheet_file)
    gives =
        elim (settled (judge dossier_file sheet_file)) [
          | inr (r, e) ↦ rw e ((judge_refuses dossier_file sheet_file r).0 e)
          | inl (p, e) ↦
              let d = p.dossier in
              let rs = p.records in
              let f = (judge_fits dossier_file sheet_file p).0 e in
              rw e
              (elim (optional (deviating_of p)) [
                | inl agrees ↦ rw agrees (d, rs, f, none_deviating d rs f.belongs (none-unlike (answer (golden d)) (recorded_for rs) d.tests agrees))
                | inr ((i, t), deviates) ↦
                    let u = unlike_found (answer (golden d)) (recorded_for rs) d.tests deviates in
                    rw deviates (d, rs, f, unlike_deviating d rs f.belongs i t _ u (first_step (answer (golden d) t) (recorded_for rs t) u.unlike))
              ])
        ]

    given : (r : Judged) → JudgeGives dossier_file sheet_file r → judge_answer dossier_file sheet_file ≡ r
    given Agrees (d, rs, f, all) =
        rw ((judge_fits dossier_file sheet_file (record { dossier = d; records = rs })).1 f, alike_none (answer (golden d)) (recorded_for rs) d.tests (golden_none d rs f.belongs all))
    given (Deviates i j) (d, rs, f, x) =
        let u = deviating_unlike d rs f.belongs i j x in
        rw ((judge_fits dossier_file sheet_file (record { dossier = d; records = rs })).1 f, found_unlike (answer (golden d)) (recorded_for rs) d.tests u, recorded_for_lem rs f.belongs.once x.this x.stands, step_first (answer (golden d) x.this.word) x.this.recorded j x.step)
    given (Refused r) h = rw ((judge_refuses dossier_file sheet_file r).1 h)
