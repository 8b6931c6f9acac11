-- The two orders of words: both are strict, and of two different words one comes before the other; and what becomes of them where words
-- are put one behind the other.
use Rattle.std.specs.Prelude.{◌≡◌, refl, ◌≢◌, ◌⊎◌, ◌↔◌, Bool, true, ◌&&◌, ◌||◌, [], ◌∷◌, ◌++◌, ℕ, ◌≤◌, ◌<◌, ltb, eqb, length}
use Rattle.std.proofs.Common.{sym, ap, inl, inr, append-nil, arith, lt-ltb, ltb-true, eq-eqb, eqb-true, length-append}
use Rattle.std.proofs.Math.Logic.{⊎_map}
use Rattle.std.proofs.lemmas.Bool.{false≢true}
use Rattle.std.proofs.Math.Decide.{ℕ_discrete, dec_lt}
use Rattle.rules.specs.Words.{Word, by_inputs, by_length}
use Rattle.theory.specs.Lists.{outcome, OneWay}

-- v comes before w by inputs
abbrev pub ByInputs : Word → Word → Type 0
ByInputs v w = by_inputs v w ≡ true

-- v comes before w by length, then by inputs
abbrev pub ByLength : Word → Word → Type 0
ByLength v w = by_length v w ≡ true

-- Both orders of words ask first for two numbers in order, and where the numbers are the same for something more.
abbrev pub first_then : ℕ → ℕ → Bool → Bool
first_then a b more = ltb a b || eqb a b && more

-- What such a test says.
pub first_then_says : (a b : ℕ) (more : Bool) → (first_then a b more ≡ true) ↔ ((a < b) ⊎ ((a ≡ b) × (more ≡ true)))
first_then_says a b more = (
  λ h.
      elim (outcome (ltb a b)) [
        | inl less ↦ inl (ltb-true a b less)
        | inr more' ↦
            elim (outcome (eqb a b)) [
              | inl e ↦ inr (eqb-true a b e, rw (more', e) at h)
              | inr ne ↦ absurd (false≢true (rw (more', ne) at h))
            ]
      ],
  λ says.
      elim says [
        | inl less ↦ rw (lt-ltb a b less)
        | inr (e, m) ↦ elim (outcome (ltb a b)) [ inl less ↦ rw less | inr more' ↦ rw (more', eq-eqb a b e, m) ]
      ],
)

-- So it is strict where what it asks more is strict.
first_then_irreflexive : (a : ℕ) {more : Bool} → more ≢ true → first_then a a more ≢ true
first_then_irreflexive a {more} irreflexive h =
    elim ((first_then_says a a more).0 h) [ inl less ↦ absurd (omega arith) | inr (e, m) ↦ irreflexive m ]

first_then_transitive : (a b c : ℕ) {m₁ m₂ m₃ : Bool} → (m₁ ≡ true → m₂ ≡ true → m₃ ≡ true)
    → first_then a b m₁ ≡ true → first_then b c m₂ ≡ true → first_then a c m₃ ≡ true
first_then_transitive a b c {m₁} {m₂} {m₃} transitive h₁ h₂ =
    (first_then_says a c m₃).1 (elim ((first_then_says a b m₁).0 h₁) [
      | inl less ↦ elim ((first_then_says b c m₂).0 h₂) [ inl less' ↦ inl (omega arith) | inr (e, m) ↦ inl (omega arith) ]
      | inr (e, m) ↦ elim ((first_then_says b c m₂).0 h₂) [ inl less ↦ inl (omega arith) | inr (e', m') ↦ inr (omega arith, transitive m m') ]
    ])

first_then_total : (a b : ℕ) {more more' : Bool} → (a ≡ b → (more ≡ true) ⊎ (more' ≡ true))
    → (first_then a b more ≡ true) ⊎ (first_then b a more' ≡ true)
first_then_total a b {more} {more'} total =
    elim (ℕ_discrete a b) [
      | yes e ↦ ⊎_map (λ m. (first_then_says a b more).1 (inr (e, m))) (λ m. (first_then_says b a more').1 (inr (sym e, m))) (total e)
      | no ne ↦
          elim (dec_lt a b) [
            | yes less ↦ inl ((first_then_says a b more).1 (inl less))
            | no nl ↦ inr ((first_then_says b a more').1 (inl (omega arith)))
          ]
    ]

pub by_inputs_irreflexive : (w : Word) → ¬ ByInputs w w
by_inputs_irreflexive [] h = false≢true h
by_inputs_irreflexive (i ∷ w) h = first_then_irreflexive i (by_inputs_irreflexive w) h

pub by_inputs_transitive : (u v w : Word) → ByInputs u v → ByInputs v w → ByInputs u w
by_inputs_transitive u v [] h₁ h₂ = h₂
by_inputs_transitive u [] (k ∷ w) h₁ h₂ = absurd (false≢true h₁)
by_inputs_transitive [] (j ∷ v) (k ∷ w) h₁ h₂ = refl
by_inputs_transitive (i ∷ u) (j ∷ v) (k ∷ w) h₁ h₂ = first_then_transitive i j k (by_inputs_transitive u v w) h₁ h₂

pub by_inputs_total : (v w : Word) → v ≢ w → ByInputs v w ⊎ ByInputs w v
by_inputs_total [] [] ne = absurd (ne refl)
by_inputs_total [] (j ∷ w) ne = inl refl
by_inputs_total (i ∷ v) [] ne = inr refl
by_inputs_total (i ∷ v) (j ∷ w) ne = first_then_total i j (λ e. by_inputs_total v w (λ e'. ne (cc)))

pub by_length_irreflexive : (w : Word) → ¬ ByLength w w
by_length_irreflexive w = first_then_irreflexive (length w) (by_inputs_irreflexive w)

pub by_length_transitive : (u v w : Word) → ByLength u v → ByLength v w → ByLength u w
by_length_transitive u v w = first_then_transitive (length u) (length v) (length w) (by_inputs_transitive u v w)

-- A shorter word comes first by length.
pub shorter_first : (v w : Word) → length v < length w → ByLength v w
shorter_first v w short = (first_then_says (length v) (length w) (by_inputs v w)).1 (inl short)

-- What comes first by length is no longer.
pub by_length_short : (v w : Word) → ByLength v w → length v ≤ length w
by_length_short v w h = elim ((first_then_says (length v) (length w) (by_inputs v w)).0 h) [ inl less ↦ omega arith | inr (e, more) ↦ omega arith ]

pub by_length_one_way : OneWay ByLength
by_length_one_way v w h h' = by_length_irreflexive v (by_length_transitive v w v h h')

inputs_append : (v w x y : Word) → length v ≡ length w → ByInputs v w → ByInputs (v ++ x) (w ++ y)
inputs_append v [] x y e h = absurd (false≢true h)
inputs_append [] (b ∷ w) x y e h = absurd (omega arith)
inputs_append (a ∷ v) (b ∷ w) x y e h =
    let long : length v ≡ length w = omega arith in
    (first_then_says a b (by_inputs (v ++ x) (w ++ y))).1 (elim ((first_then_says a b (by_inputs v w)).0 h) [
      | inl less ↦ inl less
      | inr (same, more) ↦ inr (same, inputs_append v w x y long more)
    ])

inputs_prefix : (w x y : Word) → ByInputs x y → ByInputs (w ++ x) (w ++ y)
inputs_prefix [] x y h = h
inputs_prefix (a ∷ w) x y h = (first_then_says a a (by_inputs (w ++ x) (w ++ y))).1 (inr (refl, inputs_prefix w x y h))

-- What comes before another word does so whatever is put behind the two, if no less is put behind the other.
pub before_append : (v w x y : Word) → length x ≤ length y → ByLength v w → ByLength (v ++ x) (w ++ y)
before_append v w x y le h =
    let long = length-append v x in
    let long' = length-append w y in
    (first_then_says (length (v ++ x)) (length (w ++ y)) (by_inputs (v ++ x) (w ++ y))).1 (elim ((first_then_says (length v) (length w) (by_inputs v w)).0 h) [
      | inl less ↦ inl (omega arith)
      | inr (same, more) ↦
          elim (dec_lt (length x) (length y)) [
            | yes less ↦ inl (omega arith)
            | no not_less ↦ inr (omega arith, inputs_append v w x y same more)
          ]
    ])

-- Of two inputs behind one word the lower one comes first.
pub before_input : (w : Word) (a b : ℕ) → a < b → ByLength (w ++ (a ∷ [])) (w ++ (b ∷ []))
before_input w a b less =
    let long = length-append w (a ∷ []) in
    let long' = length-append w (b ∷ []) in
    (first_then_says (length (w ++ (a ∷ []))) (length (w ++ (b ∷ []))) (by_inputs (w ++ (a ∷ [])) (w ++ (b ∷ [])))).1
    (inr (omega arith, inputs_prefix w (a ∷ []) (b ∷ []) ((first_then_says a b (by_inputs [] [])).1 (inl less))))

pub before_longer : (v w : Word) (a : ℕ) → length v ≤ length w → ByLength v (w ++ (a ∷ []))
before_longer v w a le = shorter_first v (w ++ (a ∷ [])) (omega (arith, length-append w (a ∷ [])))

-- v is w or comes before it
abbrev pub AtMost : Word → Word → Type 0
AtMost v w = (v ≡ w) ⊎ ByLength v w

pub at_most_append : (v w x : Word) → AtMost v w → AtMost (v ++ x) (w ++ x)
at_most_append v w x (inl e) = inl (ap (λ (z : Word). z ++ x) e)
at_most_append v w x (inr less) = inr (before_append v w x x (omega arith) less)

pub at_most_longer : (w x : Word) → AtMost w (w ++ x)
at_most_longer w [] = inl (sym (append-nil w))
at_most_longer w (a ∷ x) = inr (shorter_first w (w ++ (a ∷ x)) (omega (arith, length-append w (a ∷ x))))

pub at_most_transitive : (u v w : Word) → AtMost u v → AtMost v w → AtMost u w
at_most_transitive u v w (inl e) more = rw e more
at_most_transitive u v w (inr less) (inl e) = inr (rw (← e) less)
at_most_transitive u v w (inr less) (inr more) = inr (by_length_transitive u v w less more)

-- What is at most another word does not come after it.
pub at_most_not_after : (v w : Word) → AtMost v w → ¬ ByLength w v
at_most_not_after v w (inl e) h = by_length_irreflexive w (rw e at h)
at_most_not_after v w (inr less) h = by_length_one_way v w less h
