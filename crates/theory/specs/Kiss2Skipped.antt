-- Document 02, L2, "Read KISS2": lines that are skipped change no answer but the numbers of lines.
use Rattle.std.specs.Prelude.{ℕ, suc, ◌≤◌, ◌≡◌, ◌⊎◌, Bool, true, false, not, length}
use Rattle.std.proofs.Common.{eqb, leb, ◌&&◌, arith, sym, ap, ◌∙◌, inl, inr, true≢false, le-leb}
use Rattle.std.proofs.Math.Path.{refl}
use mathlib.Core.List.{List, [], ◌∷◌, ◌++◌, map, flat_map, append-nil}
use Rattle.rules.specs.declared.Refusal.{Refusal}
use Rattle.rules.specs.declared.Refusal.TheVariants.{BadLine, Contradiction, Incomplete}
use Rattle.rules.specs.Lists.{keep, any, all}
use Rattle.rules.specs.Sizes.{most_states}
use Rattle.rules.specs.Files.{unit_bytes}
use Rattle.rules.specs.Answers.{unit_state, input_of, number_of as number_of_refusal}
use Rattle.rules.specs.Line.{text}
use Rattle.rules.specs.Operations.{Outcome, fine, refuse, ◌>>=◌, ◌>>◌, require, require_none, fits}
use Rattle.rules.specs.Kiss2.{Field, Says, terms_in, numbers_in, skipped, number, reset, term, end, bad, most_text_bytes, lines_of, line_says, number_of, reset_of, term_of, ended, names_in, may_follow, contradicts, state_names, silent, unit_said, is_whole, read_lines, read_kiss2}
use Rattle.theory.specs.Lists.{outcome}
use Rattle.theory.specs.Maximal.{keep_append}
use Rattle.theory.specs.Kiss2Lines.{names_last}
use Rattle.theory.specs.Kiss2.{said_in}

-- whether it is more than a line that is skipped
abbrev pub speaks : Says → Bool
speaks skipped = false
speaks (number name n) = true
speaks (reset state) = true
speaks (term t) = true
speaks end = true
speaks bad = true

abbrev pub unskipped : List Says → List Says
unskipped said = keep speaks said

skipped_is : (s : Says) → speaks s ≡ false → s ≡ skipped
skipped_is skipped e = refl
skipped_is (number name n) e = absurd (true≢false e)
skipped_is (reset state) e = absurd (true≢false e)
skipped_is (term t) e = absurd (true≢false e)
skipped_is end e = absurd (true≢false e)
skipped_is bad e = absurd (true≢false e)

-- Lines that are skipped say nothing,
flat_map_unskipped : {A : Type 0} (f : Says → List A) → f skipped ≡ [] → (said : List Says) → flat_map f (unskipped said) ≡ flat_map f said
unfolding flat_map
flat_map_unskipped f none [] = refl
flat_map_unskipped f none (s ∷ said) =
    elim (outcome (speaks s)) [
      | inl more ↦ rw (more, flat_map_unskipped f none said)
      | inr nothing ↦ rw (nothing, skipped_is s nothing, none, flat_map_unskipped f none said)
    ]

ended-unskipped : (said : List Says) → ended (unskipped said) ≡ ended said
ended-unskipped [] = refl
ended-unskipped (s ∷ said) =
    elim (outcome (speaks s)) [
      | inl more ↦ rw (more, ended-unskipped said)
      | inr nothing ↦ rw (nothing, skipped_is s nothing, ended-unskipped said)
    ]

-- so what may follow, and what contradicts, does not depend on them.
follow_unskipped : (before : List Says) (s : Says) → may_follow (unskipped before) s ≡ may_follow before s
follow_unskipped before skipped = refl
follow_unskipped before (number name n) =
    rw (ended-unskipped before, flat_map_unskipped term_of refl before, flat_map_unskipped (number_of name) refl before)
follow_unskipped before (reset state) =
    rw (ended-unskipped before, flat_map_unskipped term_of refl before, flat_map_unskipped reset_of refl before)
follow_unskipped before (term t) =
    let terms = flat_map_unskipped term_of refl before in
    let resets = flat_map_unskipped reset_of refl before in
    let names : names_in (unskipped before ++ (term t ∷ [])) ≡ names_in (before ++ (term t ∷ [])) =
    names_last (unskipped before) (term t) ∙ rw (terms, resets) (sym (names_last before (term t)))
    in
    let room : List Field → Bool =
    λ names.
    not (ended before) && any (eqb (length t.cube)) (numbers_in (text ".i") before) && any (eqb (length t.output)) (numbers_in (text ".o") before)
    && all (leb (suc (length (terms_in before)))) (numbers_in (text ".p") before)
    && all (leb (length names)) (most_states ∷ numbers_in (text ".s") before)
    in
    rw (
      ended-unskipped before,
      flat_map_unskipped (number_of (text ".i")) refl before,
      flat_map_unskipped (number_of (text ".o")) refl before,
      flat_map_unskipped (number_of (text ".p")) refl before,
      flat_map_unskipped (number_of (text ".s")) refl before,
      terms,
    )
    (ap room names)
follow_unskipped before end = rw (ended-unskipped before)
follow_unskipped before bad = refl

contradicts-unskipped : (before : List Says) (s : Says) → contradicts (unskipped before) s ≡ contradicts before s
contradicts-unskipped before s = rw (flat_map_unskipped term_of refl before)

-- the same refusal, but for the number of a line
abbrev pub SameButLine : Refusal → Refusal → Type 0
SameButLine r s = (r ≡ s) ⊎ ((n m : ℕ) × (((r ≡ BadLine n) × (s ≡ BadLine m)) ⊎ ((r ≡ Contradiction n) × (s ≡ Contradiction m))))

-- It has the same number.
pub same_number : (r s : Refusal) → SameButLine r s → number_of_refusal r ≡ number_of_refusal s
same_number r s (inl e) = ap number_of_refusal e
same_number r s (inr (n, m, inl (e, e'))) = rw (e, e')
same_number r s (inr (n, m, inr (e, e'))) = rw (e, e')

-- both come to what is the same, or both are refused alike
abbrev pub Alike : {A : Type 0} → (A → A → Type 0) → Outcome A → Outcome A → Type 0
Alike same (fine a) (fine b) = same a b
Alike same (fine a) (refuse s) = ⊥
Alike same (refuse r) (fine b) = ⊥
Alike same (refuse r) (refuse s) = SameButLine r s

-- the same is said, but for lines that are skipped
abbrev pub SameSaid : List Says → List Says → Type 0
SameSaid a b = unskipped a ≡ unskipped b

-- what is said, without the lines that are skipped and without numbers of lines
unfoldable read_says : List Says → List Says → Outcome (List Says)
read_says before [] = fine before
read_says before (s ∷ says) = do
  require (may_follow before s) (BadLine 0)
  require (not (contradicts before s)) (Contradiction 0)
  read_says (before ++ (s ∷ [])) says

-- a reading of lines comes to this
abbrev Leads : Outcome (List Says) → Outcome (List Says) → Type 0
Leads (fine a) (fine b) = unskipped a ≡ b
Leads (fine a) (refuse t) = ⊥
Leads (refuse r) (fine b) = ⊥
Leads (refuse r) (refuse t) = (n : ℕ) × (((r ≡ BadLine n) × (t ≡ BadLine 0)) ⊎ ((r ≡ Contradiction n) × (t ≡ Contradiction 0)))

lines_lead : (n : ℕ) (before : List Says) (lines : List (List ℕ))
    → Leads (read_lines n before lines) (read_says (unskipped before) (unskipped (map line_says lines)))
unfolding read_lines read_says
lines_lead n before [] = refl
lines_lead n before (line ∷ lines) =
    let s = line_says line in
    let rest = lines_lead (suc n) (before ++ (s ∷ [])) lines in
    elim (outcome (speaks s)) [
      | inr nothing ↦
          let is = skipped_is s nothing in
          let same_before : unskipped (before ++ (skipped ∷ [])) ≡ unskipped before =
          keep_append speaks before (skipped ∷ []) ∙ append-nil (unskipped before)
          in
          rw is (rw (is, same_before) at rest)
      | inl more ↦
          let more_before : unskipped (before ++ (s ∷ [])) ≡ unskipped before ++ (s ∷ []) = keep_append speaks before (s ∷ []) ∙ rw more in
          rw (more, follow_unskipped before s, contradicts-unskipped before s)
          (elim (outcome (may_follow before s)) [
            | inr bad_line ↦ rw bad_line (n, inl (refl, refl))
            | inl follows ↦
                rw follows
                (elim (outcome (contradicts before s)) [ inl against ↦ rw against (n, inr (refl, refl)) | inr agrees ↦ rw agrees (rw more_before at rest) ])
          ])
    ]

both_lead : (a b c : Outcome (List Says)) → Leads a c → Leads b c → Alike SameSaid a b
both_lead (fine a) (fine b) (fine c) x y = x ∙ sym y
both_lead (fine a) (fine b) (refuse t) x y = absurd x
both_lead (fine a) (refuse s) (fine c) x y = absurd y
both_lead (fine a) (refuse s) (refuse t) x y = absurd x
both_lead (refuse r) (fine b) (fine c) x y = absurd x
both_lead (refuse r) (fine b) (refuse t) x y = absurd y
both_lead (refuse r) (refuse s) (fine c) x y = absurd x
both_lead (refuse r) (refuse s) (refuse t) (n, inl (e, is)) (m, inl (e', is')) = inr (n, m, inl (e, e'))
both_lead (refuse r) (refuse s) (refuse t) (n, inl (e, is)) (m, inr (e', is')) = absurd (omega (arith, ap number_of_refusal (sym is ∙ is')))
both_lead (refuse r) (refuse s) (refuse t) (n, inr (e, is)) (m, inl (e', is')) = absurd (omega (arith, ap number_of_refusal (sym is ∙ is')))
both_lead (refuse r) (refuse s) (refuse t) (n, inr (e, is)) (m, inr (e', is')) = inr (n, m, inr (e, e'))

-- Rule 3: lines that differ by skipped ones only are read alike; only the numbers of the lines may be others.
pub skipped_alike : (n m : ℕ) (lines others : List (List ℕ)) → SameSaid (map line_says lines) (map line_says others)
    → Alike SameSaid (read_lines n [] lines) (read_lines m [] others)
skipped_alike n m lines others same_said =
    both_lead (read_lines n [] lines) (read_lines m [] others) (read_says [] (unskipped (map line_says lines)))
    (lines_lead n [] lines) (rw same_said (lines_lead m [] others))

-- what is done with all that is said
abbrev made : List ℕ → List Says → Outcome (List ℕ)
made out said = do
  require_none (silent said) (λ (q, i). Incomplete (unit_state q) (input_of i))
  fits (unit_bytes (unit_said said)) out
  fine (unit_bytes (unit_said said))

-- what is done behind the last line, which has the number before n
abbrev rest : ℕ → List ℕ → List Says → Outcome (List ℕ)
rest n out said = do
  require (is_whole said) (BadLine n)
  made out said

module _ (a b : List Says) (alike : SameSaid a b) where
  flat_map_alike : {A : Type 0} (f : Says → List A) → f skipped ≡ [] → flat_map f a ≡ flat_map f b
  flat_map_alike f none = sym (flat_map_unskipped f none a) ∙ ap (flat_map f) alike ∙ flat_map_unskipped f none b

  ended_alike : ended a ≡ ended b
  ended_alike = sym (ended-unskipped a) ∙ ap ended alike ∙ ended-unskipped b

  whole_alike : is_whole a ≡ is_whole b
  unfolding is_whole
  whole_alike =
      rw (
        ended_alike,
        flat_map_alike term_of refl,
        flat_map_alike reset_of refl,
        flat_map_alike (number_of (text ".p")) refl,
        flat_map_alike (number_of (text ".s")) refl,
      )

  silent_alike : silent a ≡ silent b
  unfolding silent state_names
  silent_alike = rw (flat_map_alike term_of refl, flat_map_alike reset_of refl, flat_map_alike (number_of (text ".i")) refl)

  unit_alike : unit_said a ≡ unit_said b
  unfolding unit_said state_names
  unit_alike = rw (flat_map_alike term_of refl, flat_map_alike reset_of refl, flat_map_alike (number_of (text ".i")) refl)

  rest_alike : (n m : ℕ) (out : List ℕ) → Alike (λ v w. v ≡ w) (rest n out a) (rest m out b)
  rest_alike n m out =
      rw (whole_alike, silent_alike, unit_alike)
      (elim (outcome (is_whole b)) [
        | inr lacks ↦ rw lacks (inr (n, m, inl (refl, refl)))
        | inl whole ↦ rw whole (same_alike (made out b))
      ])
    where
      same_alike : (o : Outcome (List ℕ)) → Alike (λ v w. v ≡ w) o o
      same_alike (fine w) = refl
      same_alike (refuse r) = inl refl

-- So are texts: the same unit is written, or they are refused alike.
pub skipped_lines_change_nothing : (bytes other out : List ℕ) → length bytes ≤ most_text_bytes → length other ≤ most_text_bytes
    → SameSaid (said_in bytes) (said_in other) → Alike (λ v w. v ≡ w) (read_kiss2 bytes out) (read_kiss2 other out)
unfolding read_kiss2
skipped_lines_change_nothing bytes other out short short' same_said =
    rw (le-leb _ _ short, le-leb _ _ short')
    (go (read_lines 1 [] (lines_of bytes)) (read_lines 1 [] (lines_of other)) (skipped_alike 1 1 (lines_of bytes) (lines_of other) same_said))
  where
    go : (x y : Outcome (List Says)) → Alike SameSaid x y
        → Alike (λ v w. v ≡ w) (◌>>=◌ x (rest (suc (length (lines_of bytes))) out)) (◌>>=◌ y (rest (suc (length (lines_of other))) out))
    go (fine a) (fine b) alike = rest_alike a b alike (suc (length (lines_of bytes))) (suc (length (lines_of other))) out
    go (fine a) (refuse s) alike = absurd alike
    go (refuse r) (fine b) alike = absurd alike
    go (refuse r) (refuse s) alike = alike
