-- Laws of the lines: from an answer and its promise to what its line says.
use Prim.Native.Nat.{ℕ, ◌-◌, ◌≤◌}
use native.Mathlib.Omega.{arith}
use mathlib.Core.Path.{◌≡◌, refl, sym, ◌∙◌, ap, subst}
use mathlib.Core.Logic.{◌≢◌}
use mathlib.Core.List.{List, [], ◌∷◌}
use mathlib.Core.Option.{Option, none, some}
use lib.ListN.{length, take, drop, length-append}
use lib.Seq.{take_at}
use Rattle.rules.specs.declared.Refusal.{Refusal}
use Rattle.rules.specs.declared.Built.TheVariants.{Written, Refused as BuildRefused}
use Rattle.rules.specs.declared.Found.TheVariants.{Written as FoundWritten, Refused as FindRefused}
use Rattle.rules.specs.declared.Imported.TheVariants.{Written as ImportWritten, Refused as ImportRefused}
use Rattle.rules.specs.declared.Ran.{Ran}
use Rattle.rules.specs.declared.Ran.TheVariants.{Passes, Fails, Refused as RunRefused}
use Rattle.rules.specs.declared.Compared.{Compared}
use Rattle.rules.specs.declared.Compared.TheVariants.{Equal, Differs, Refused as CompareRefused}
use Rattle.rules.specs.Words.{Word, Valid}
use Rattle.rules.specs.Answers.{Said}
use Rattle.rules.specs.Operations.{Outcome, fine, refuse, build, overwritten, Trial, run, failing_of, verdict, run_answer, compare, comparison, compare_answer, answered}
use Rattle.rules.specs.Find.{find}
use Rattle.rules.specs.Kiss2.{read_kiss2}
use Rattle.rules.specs.Promises.{ComparePromise}
use Rattle.rules.specs.Line.{text, decimal, line, run_line}
use Rattle.theory.specs.Answers.{compare_answer_lem}
use Rattle.theory.specs.Bounds.{Fits}
use Rattle.theory.specs.Files.{dossier_sized}
use Rattle.theory.specs.Run.{run_refuses, run_exactly}
use Rattle.theory.specs.Compare.{CompareFinds}
use Rattle.theory.proofs.Compare.{compare_gives}
use Rattle.line.specs.declared.Line.{Line}
use Rattle.line.proofs.Verdicts.{passes_line_lem}
use Rattle.line.proofs.Failing.{valid_wider}
use Rattle.bureau_refusals.specs.Values.{spelled, refused_line}
use Rattle.line.specs.Lines.{Says}
use Rattle.bureau_lines.specs.declared.BuiltLine.{BuiltLine}
use Rattle.bureau_lines.specs.Lines.{built_length, BuildLinePromise, found_length, FindLinePromise, imported_length, ImportLinePromise, trial_line, telling_room, compared_line, compare_line}

-- an answer r, which is v
module _ {A : Type 0} {r v : A} (is : r ≡ v) where
  pub fits_told : (says : A → Said) → Fits (says r) → Fits (says v)
  fits_told says fits = subst (λ x. Fits (says x)) is fits

  -- of an operation that answers a
  pub says_told : (line_of : A → List ℕ) {a : A} {l : Line} → r ≡ a → Says (line_of v) l → Says (line_of a) l
  says_told line_of {a} {l} answers said = subst (λ x. Says (line_of x) l) (sym is ∙ answers) said

  pub value_told : (value_of : A → ℕ) {a : A} → r ≡ a → value_of v ≡ value_of a
  value_told value_of answers = ap value_of (sym is ∙ answers)

module _ (s t : List ℕ) (r : Ran) (e : r ≡ run_answer s t) where
  -- where run does not refuse, both lines are the same
  same_line : (v : Ran) → r ≡ v → ((f : Refusal) → v ≢ RunRefused f) → run_line s t ≡ trial_line s t
  unfolding run_line trial_line
  same_line v is other = go (run s t) refl
    where
      go : (o : Outcome Trial) → run s t ≡ o → run_line s t ≡ trial_line s t
      go (fine p) e' = rw e'
      go (refuse f) e' = absurd (other f (sym is ∙ e ∙ ap (λ (o : Outcome Trial). answered o (λ p. verdict p (failing_of p)) RunRefused) e'))

  pub passes_told : (n : ℕ) → r ≡ Passes n → line (text "PASSES" ∷ decimal n ∷ []) ≡ trial_line s t
  passes_told n is = passes_line_lem s t r e n is ∙ same_line (Passes n) is (λ f clash. let z : ◌≡◌ {A = ℕ} 0 1 = cc in omega arith)

  pub fails_told : (i j : ℕ) → r ≡ Fails i j → run_line s t ≡ trial_line s t
  fails_told i j is = same_line (Fails i j) is (λ f clash. let z : ◌≡◌ {A = ℕ} 0 1 = cc in omega arith)

  pub refused_told : (f : Refusal) → r ≡ RunRefused f → refused_line f ≡ trial_line s t
  unfolding trial_line
  refused_told f is = rw ((run_refuses s t f).1 ((run_exactly s t (RunRefused f)).0 (sym e ∙ is)))

-- what compare wrote to an output of 127 bytes
module _ (s t out left : List ℕ) (r : Compared) (promise : ComparePromise s t out r left) (room : out ≡ telling_room) where
  compared_is : r ≡ compare_answer s t telling_room
  compared_is = rw (← room) (compare_answer_lem s t out r left promise).0

  pub equal_told : r ≡ Equal → line (text "EQUAL" ∷ []) ≡ compare_line s t
  unfolding compare_line
  equal_told is = go (compare s t telling_room) (sym is ∙ compared_is)
    where
      go : (o : Outcome (Option Word)) → Equal ≡ answered o comparison CompareRefused → line (text "EQUAL" ∷ []) ≡ answered o compared_line refused_line
      go (fine none) e = refl
      go (fine (some w)) e = let z : ◌≡◌ {A = ℕ} 0 1 = cc in absurd (omega arith)
      go (refuse f) e = let z : ◌≡◌ {A = ℕ} 0 1 = cc in absurd (omega arith)

  pub uncompared_told : (f : Refusal) → r ≡ CompareRefused f → refused_line f ≡ compare_line s t
  unfolding compare_line
  uncompared_told f is = go (compare s t telling_room) (sym is ∙ compared_is)
    where
      go : (o : Outcome (Option Word)) → CompareRefused f ≡ answered o comparison CompareRefused → refused_line f ≡ answered o compared_line refused_line
      go (fine none) e = let z : ◌≡◌ {A = ℕ} 0 1 = cc in absurd (omega arith)
      go (fine (some w)) e = let z : ◌≡◌ {A = ℕ} 0 1 = cc in absurd (omega arith)
      go (refuse g) e = ap refused_line (let same_refusal : f ≡ g = cc in same_refusal)

  -- the telling word, of n inputs, at the front of the output
  pub record Telling (n : ℕ) : Type 0 where
    pub word : Word
    pub found : compare s t telling_room ≡ fine (some word)
    pub long : n ≡ length word
    pub written : take n left ≡ word
    pub inside : n ≤ length left
    pub short : n ≤ 127
    pub valid : Valid 16 word

  pub telling : (n : ℕ) → r ≡ Differs n → Telling n
  telling n is = go (compare s t telling_room) refl
    where
      go : (o : Outcome (Option Word)) → compare s t telling_room ≡ o → Telling n
      go (fine none) e = let z : ◌≡◌ {A = ℕ} 0 1 = cc (e, is, compared_is) in absurd (omega arith)
      go (refuse f) e = let z : ◌≡◌ {A = ℕ} 0 1 = cc (e, is, compared_is) in absurd (omega arith)
      go (fine (some w)) e =
          let (d, u, c, (first, fits)) : CompareFinds s t telling_room (some w) = rw e at (compare_gives s t telling_room) in
          let long : n ≡ length w = cc (e, is, compared_is) in
          let wrote : left ≡ overwritten w telling_room = (compare_answer_lem s t out r left promise).1 ∙ rw (room, e) in
          record {
            word = w;
            found = e;
            long = long;
            written = rw (wrote, long) (take_at w (drop (length w) telling_room) (length w) refl);
            inside = rw (wrote, length-append) (omega (arith, long));
            short = omega (arith, long, fits);
            valid = valid_wider d.inputs 16 w (dossier_sized s d c.reads).golden.few_inputs first.valid;
          }

  pub telling_spelled : (n : ℕ) → Telling n → (length (take n left) ≤ 200) × Valid 16 (take n left)
  telling_spelled n w = rw w.written (omega (arith, w.long, w.short), w.valid)

  pub differs_told : (n : ℕ) (w : Telling n) → line (text "DIFFERS" ∷ spelled (take n left) ∷ []) ≡ compare_line s t
  unfolding compare_line
  differs_told n w = rw (w.found, w.written)

-- what was written stands in the output
written_inside : {A : Type 0} (written : ℕ → A) (refused : Refusal → A) (length_of : A → ℕ) → ((n : ℕ) → length_of (written n) ≡ n)
    → ((f : Refusal) → length_of (refused f) ≡ 0) → (o : Outcome (List ℕ)) (out : List ℕ)
    → length_of (answered o (λ b. written (length b)) refused) ≤ length (answered o (λ b. overwritten b out) (λ f. out))
written_inside written refused length_of all nothing (fine b) out = rw (all (length b), length-append b) (omega arith)
written_inside written refused length_of all nothing (refuse f) out = rw (nothing f) (omega arith)

pub built_inside : {s out left : List ℕ} {r : BuiltLine} → BuildLinePromise s out r left → r.length ≤ length left
built_inside {s} {out} {left} {r} promise =
    rw (promise.length, promise.output) (written_inside Written BuildRefused built_length (λ n. refl) (λ f. refl) (build s out) out)

pub found_inside : {s : List ℕ} {bound : ℕ} {out left : List ℕ} {r : BuiltLine} → FindLinePromise s bound out r left → r.length ≤ length left
found_inside {s} {bound} {out} {left} {r} promise =
    rw (promise.length, promise.output) (written_inside FoundWritten FindRefused found_length (λ n. refl) (λ f. refl) (find s bound out) out)

pub imported_inside : {s out left : List ℕ} {r : BuiltLine} → ImportLinePromise s out r left → r.length ≤ length left
imported_inside {s} {out} {left} {r} promise =
    rw (promise.length, promise.output) (written_inside ImportWritten ImportRefused imported_length (λ n. refl) (λ f. refl) (read_kiss2 s out) out)
