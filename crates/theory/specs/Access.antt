-- Document 02, L1: the words that lead from 0 to a state of a machine, and the words that tell two of its states apart. A state that is
-- reached at all is reached by a word of at most n - 1 inputs, and two states that are told apart at all are told apart by one.
use Rattle.std.specs.Prelude.{ℕ, ◌-◌, ◌≤◌, ◌<◌, ◌≡◌, refl, ◌≢◌, Bool, false, not, eqb, length}
use Rattle.std.proofs.Common.{arith, ◌∙◌, inl, inr, eqb-true, eq-eqb, ne_eqb}
use Rattle.std.proofs.Math.Decide.{ℕ_discrete}
use mathlib.Core.List.Memᴰ
use mathlib.Core.List.{[], ◌∷◌, List-discrete}
use Rattle.std.proofs.Math.Option.{none, some}
use Rattle.std.proofs.lemmas.Bool.{not-true, not-false, eqb-false}
use Rattle.rules.specs.Lists.{first}
use Rattle.rules.specs.Words.{Word, Valid, same, shortlex}
use Rattle.rules.specs.Machines.{Machine, Complete, after, answer_from}
use Rattle.theory.specs.Count.{count_some}
use Rattle.theory.specs.Lists.{optional}
use Rattle.theory.specs.Words.{same_true, same_refl, same_false, differ_same}
use Rattle.theory.specs.Orders.{ByLength}
use Rattle.theory.specs.Shortlex.{FirstWord, first_word_short, found_word, word_found, none_found, found_none}
use Rattle.theory.specs.Ways.{Reached, start?, way, reached_start, reached_next}
use Rattle.theory.specs.Classes.{told_soon}

-- w leads from 0 to the state q, and no word that is shorter, or as long and earlier by inputs, does
pub record FirstAccess (k : ℕ) (M : Machine) (q : ℕ) (w : Word) : Type 0 where
  pub valid : Valid k w
  pub leads : after M 0 w ≡ q
  pub earlier : (v : Word) → Valid k v → ByLength v w → after M 0 v ≢ q

-- w tells the states p and q apart, and no word that is shorter, or as long and earlier by inputs, does
pub record FirstTold (k : ℕ) (M : Machine) (p q : ℕ) (w : Word) : Type 0 where
  pub valid : Valid k w
  pub tells : answer_from M p w ≢ answer_from M q w
  pub earlier : (v : Word) → Valid k v → ByLength v w → answer_from M p v ≡ answer_from M q v

module _ {k : ℕ} {M : Machine} (complete : Complete k M) where
  -- The empty word leads to one state, so n - 1 inputs lead to all that can be reached.
  reached_all : (w : Word) → Valid k w → (q : ℕ) → Reached k M ([] ∷ []) (M.states - 1) q → Reached k M ([] ∷ []) (M.states - 1) (after M q w)
  reached_all [] valid q r = r
  reached_all (i ∷ w) (b, valid) q r =
      let some = count_some (start? M ([] ∷ [])) M.states 0 complete.start ([], Memᴰ.head refl, refl) in
      reached_all w valid (M.next q i)
      (reached_next k M complete ([] ∷ []) (λ c m. rw (Memᴰ.eq_of_singleton m) tt) (M.states - 1) (omega arith) q i b r)

  -- A state that some word leads to is led to by a word of fewer inputs than there are states.
  pub reached_soon : (w : Word) → Valid k w → (v : Word) × Valid k v × (length v < M.states) × (after M 0 v ≡ after M 0 w)
  reached_soon w valid =
      let r = reached_all w valid 0 (reached_start k M ([] ∷ []) (M.states - 1) 0 ([], Memᴰ.head refl, refl)) in
      let (c, y, m, valid_y, short, e) = way k M ([] ∷ []) (M.states - 1) (after M 0 w) r in
      (y, valid_y, omega (arith, complete.start), rw (Memᴰ.eq_of_singleton m) at e)

  module _ (q : ℕ) where
    -- the test of find
    abbrev leads : Word → Bool
    leads w = eqb (after M 0 w) q

    access_word_lem : {w : Word} → FirstAccess k M q w → FirstWord k leads w
    access_word_lem f =
        record { valid = f.valid; passes = eq-eqb _ q f.leads; earlier = λ v valid before. ne_eqb _ q (f.earlier v valid before) }

    -- What find looks for is the first access word; it has at most n - 1 inputs;
    pub some_access : {w : Word} → first leads (shortlex k (M.states - 1)) ≡ some w → FirstAccess k M q w
    some_access e =
        let (f, short) = found_word k (M.states - 1) leads e in
        record { valid = f.valid; leads = eqb-true _ q f.passes; earlier = λ v valid before. eqb-false _ q (f.earlier v valid before) }

    pub access_short : {w : Word} → FirstAccess k M q w → length w ≤ M.states - 1
    access_short {w} f =
        let (v, valid, short, e) = reached_soon w f.valid in
        let less = first_word_short (access_word_lem f) v valid (eq-eqb _ q (e ∙ f.leads)) in
        omega arith

    pub access_some : {w : Word} → FirstAccess k M q w → first leads (shortlex k (M.states - 1)) ≡ some w
    access_some f = word_found k (M.states - 1) leads (access_word_lem f) (access_short f)

    -- and it is lacking exactly where no word of any length leads to the state.
    pub none_access : first leads (shortlex k (M.states - 1)) ≡ none → (w : Word) → Valid k w → after M 0 w ≢ q
    none_access e w valid is =
        let (v, valid_v, short, same) = reached_soon w valid in
        eqb-false _ q (none_found k (M.states - 1) leads e v valid_v (omega arith)) (same ∙ is)

    pub access_none : ((w : Word) → Valid k w → after M 0 w ≢ q) → first leads (shortlex k (M.states - 1)) ≡ none
    access_none h = found_none k (M.states - 1) leads (λ v valid short. ne_eqb _ q (h v valid))

    -- A state that some word leads to has a first access word.
    pub access_first : (w : Word) → Valid k w → after M 0 w ≡ q → (v : Word) × FirstAccess k M q v
    access_first w valid is =
        elim (optional (first leads (shortlex k (M.states - 1)))) [
          | inl e ↦ absurd (none_access e w valid is)
          | inr (v, e) ↦ (v, some_access e)
        ]

  module _ (p q : ℕ) (state_p : p < M.states) (state_q : q < M.states) where
    abbrev tells : Word → Bool
    tells w = not (same (answer_from M p w) (answer_from M q w))

    tells-false : (w : Word) → tells w ≡ false → answer_from M p w ≡ answer_from M q w
    tells-false w e = same_true _ _ (not-false _ e)

    alike_tells : (w : Word) → answer_from M p w ≡ answer_from M q w → tells w ≡ false
    alike_tells w e = rw (e, same_refl (answer_from M q w))

    told_word : {w : Word} → FirstTold k M p q w → FirstWord k tells w
    told_word f =
        record { valid = f.valid; passes = rw (differ_same f.tells); earlier = λ v valid before. alike_tells v (f.earlier v valid before) }

    -- The same of the first telling word of two states.
    pub some_told : {w : Word} → first tells (shortlex k (M.states - 1)) ≡ some w → FirstTold k M p q w
    some_told e =
        let (f, short) = found_word k (M.states - 1) tells e in
        record { valid = f.valid; tells = same_false (not-true _ f.passes); earlier = λ v valid before. tells-false v (f.earlier v valid before) }

    pub told_short : {w : Word} → FirstTold k M p q w → length w ≤ M.states - 1
    told_short {w} f =
        let (v, valid, short, told) = told_soon complete p q state_p state_q w f.valid f.tells in
        let less = first_word_short (told_word f) v valid (rw (differ_same told)) in
        omega arith

    pub told_some : {w : Word} → FirstTold k M p q w → first tells (shortlex k (M.states - 1)) ≡ some w
    told_some f = word_found k (M.states - 1) tells (told_word f) (told_short f)

    pub none_told : first tells (shortlex k (M.states - 1)) ≡ none → (w : Word) → Valid k w → answer_from M p w ≡ answer_from M q w
    none_told e w valid =
        elim (List-discrete ℕ_discrete (answer_from M p w) (answer_from M q w)) [
          | yes alike ↦ alike
          | no differ ↦
              let (v, valid_v, short, told) = told_soon complete p q state_p state_q w valid differ in
              absurd (told (tells-false v (none_found k (M.states - 1) tells e v valid_v (omega arith))))
        ]

    pub told_none : ((w : Word) → Valid k w → answer_from M p w ≡ answer_from M q w) → first tells (shortlex k (M.states - 1)) ≡ none
    told_none h = found_none k (M.states - 1) tells (λ v valid short. alike_tells v (h v valid))

    pub told_first : (w : Word) → Valid k w → answer_from M p w ≢ answer_from M q w → (v : Word) × FirstTold k M p q v
    told_first w valid differ =
        elim (optional (first tells (shortlex k (M.states - 1)))) [
          | inl e ↦ absurd (differ (none_told e w valid))
          | inr (v, e) ↦ (v, some_told e)
        ]
