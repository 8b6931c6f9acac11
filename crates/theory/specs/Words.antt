-- Laws of words: when the tests of the rules say `true`.
use Rattle.std.specs.Prelude.{ℕ, ◌≡◌, refl, ◌≢◌, Bool, true, false, ◌&&◌, eqb}
use Rattle.std.proofs.Common.{sym, inl, inr, eqb-true, eq-eqb}
use mathlib.Core.List.{List, [], ◌∷◌, ◌++◌, nil≢cons}
use Rattle.std.proofs.lemmas.Bool.{false≢true}
use Rattle.rules.specs.Lists.{◌∈◌}
use Rattle.rules.specs.Words.{Word, Valid, same, Begins, begins, is_in}
use Rattle.theory.specs.Lists.{outcome, clash, any-true, any_of}

-- both parts of a test
pub both : {a b : Bool} → (a && b) ≡ true → (a ≡ true) × (b ≡ true)
both {a} {b} e = elim (outcome a) [ inl p ↦ (p, rw p at e) | inr p ↦ absurd (false≢true (rw p at e)) ]

pub same_true : (v w : Word) → same v w ≡ true → v ≡ w
same_true [] [] e = refl
same_true [] (b ∷ w) e = absurd (false≢true e)
same_true (a ∷ v) [] e = absurd (false≢true e)
same_true (a ∷ v) (b ∷ w) e =
    let (h, t) = both {a = eqb a b} e in
    let ha = eqb-true a b h in
    let tv = same_true v w t in
    cc

pub same_refl : (w : Word) → same w w ≡ true
same_refl [] = refl
same_refl (a ∷ w) = rw (eq-eqb a a refl) (same_refl w)

pub same_false : {v w : Word} → same v w ≡ false → v ≢ w
same_false {v} {w} e h = clash (same_refl w) (rw h at e)

pub differ_same : {v w : Word} → v ≢ w → same v w ≡ false
differ_same {v} {w} ne = elim (outcome (same v w)) [ inl p ↦ absurd (ne (same_true v w p)) | inr p ↦ p ]

pub in_is_in : {w : Word} {ws : List Word} → w ∈ ws → is_in w ws ≡ true
in_is_in {w} m = any_of (same w) m (same_refl w)

pub is_in_in : {w : Word} {ws : List Word} → is_in w ws ≡ true → w ∈ ws
is_in_in {w} {ws} e = let (v, m, h) = any-true (same w) ws e in rw (same_true w v h) m

pub begins-true : (v w : Word) → begins v w ≡ true → Begins v w
begins-true [] w e = (w, refl)
begins-true (a ∷ v) [] e = absurd (false≢true e)
begins-true (a ∷ v) (b ∷ w) e =
    let (h, t) = both {a = eqb a b} e in
    let (rest, r) = begins-true v w t in
    let ha = eqb-true a b h in
    (rest, cc)

pub begins_of : (v w : Word) → Begins v w → begins v w ≡ true
begins_of [] w b = refl
begins_of (a ∷ v) [] (rest, e) = absurd (nil≢cons (sym e))
begins_of (a ∷ v) (b ∷ w) (rest, e) = rw (eq-eqb a b (cc)) (begins_of v w (rest, cc))

-- The inputs of two words one after the other.
pub valid_append : (k : ℕ) (x y : Word) → Valid k x → Valid k y → Valid k (x ++ y)
valid_append k [] y v v' = v'
valid_append k (i ∷ x) y (h, v) v' = (h, valid_append k x y v v')
