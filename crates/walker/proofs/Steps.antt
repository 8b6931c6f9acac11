-- Laws of a walk's steps, and of two answers that are gone through side by side.
use Prim.Native.Nat.{ℕ, suc, ◌+◌, ◌≤◌, ◌<◌}
use mathlib.Core.Path.{◌≡◌, refl, sym, ◌∙◌}
use mathlib.Core.List.{List, [], ◌∷◌}
use mathlib.Core.Bool.{Bool, true, false, cond, not}
use native.Mathlib.Nat.{add-zero, zero-add}
use native.Mathlib.Omega.{arith}
use borrow.Author.Tests.{eq-eqb, ne_eqb, eqb-true, eqb-false, not-true, not-false}
use lib.Dec.{eqb}
use lib.ListN.{length, get_or, drop}
use Rattle.std.specs.Prelude.{Option, Some, None, is_none}
use Rattle.rules.specs.Words.{Word, same}
use Rattle.rules.specs.Machines.{Machine, after, answer_from}
use Rattle.rules.specs.Operations.{first_difference}
use Rattle.walker.specs.Walks.{differ_at}
use Rattle.walker.proofs.Words.{rest_more, rest_none}

-- a step of a machine in the state q, at the step j of the word w
module _ (M : Machine) (q : ℕ) (w : Word) (j : ℕ) where
  answer_more : (i : ℕ) → j < length w → i ≡ get_or w j 0 → answer_from M q (drop j w) ≡ M.output q i ∷ answer_from M (M.next q i) (drop (j + 1) w)
  answer_more i less is = rw (rest_more w j less, is)

  answer_none : length w ≤ j → answer_from M q (drop j w) ≡ []
  answer_none ended = rw (rest_none w j ended)

  -- where the rest of a walk leads to the state x that the whole leads to, one step more does, and so does the end
  module _ (x : ℕ) (so_far : x ≡ after M q (drop j w)) where
    pub after_more : (i q' : ℕ) → j < length w → i ≡ get_or w j 0 → q' ≡ M.next q i → x ≡ after M q' (drop (j + 1) w)
    after_more i q' less is to = so_far ∙ rw (rest_more w j less, to, is)

    pub after_none : length w ≤ j → q ≡ x
    after_none ended = sym (so_far ∙ rw (rest_none w j ended))

-- the first step at which two answers differ, the steps counted from j
abbrev pub differ_from : ℕ → List ℕ → List ℕ → Option ℕ
differ_from j a b = cond (same a b) None (Some (j + first_difference a b))

pub differ_start : (a b : List ℕ) → differ_at a b ≡ differ_from 0 a b
unfolding differ_at
differ_start a b = rw (zero-add (first_difference a b))

none_when : (t : Bool) (step : ℕ) → is_none {T = ℕ} (cond t None (Some step)) ≡ t
none_when true step = refl
none_when false step = refl

pub differ_none : (a b : List ℕ) → is_none (differ_at a b) ≡ same a b
unfolding differ_at
differ_none a b = none_when (same a b) (first_difference a b)

-- What is left of two answers begins with x and y; whether these are the same has been found to be t.
module _ (a b a' b' : List ℕ) (x y : ℕ) (t : Bool) (ea : a ≡ x ∷ a') (eb : b ≡ y ∷ b') (is : t ≡ eqb x y) where
  alike_on_lem : not t ≡ false → same a b ≡ same a' b'
  alike_on_lem e = rw (ea, eb, eq-eqb x y (eqb-true x y (sym is ∙ not-false t e)))

  alike_other : not t ≡ true → same a b ≡ false
  alike_other e = rw (ea, eb, ne_eqb x y (eqb-false x y (sym is ∙ not-true t e)))

  differ_on : (j : ℕ) → not t ≡ false → differ_from j a b ≡ differ_from (j + 1) a' b'
  differ_on j e =
      let s : j + suc (first_difference a' b') ≡ j + 1 + first_difference a' b' = omega arith in
      rw (ea, eb, eq-eqb x y (eqb-true x y (sym is ∙ not-false t e)), s)

  differ_here : (j : ℕ) → not t ≡ true → differ_from j a b ≡ Some j
  differ_here j e = rw (ea, eb, ne_eqb x y (eqb-false x y (sym is ∙ not-true t e)), add-zero j)

-- Two states answer the word w from its step j on alike or not, as x says of the whole.
module _ (G U : Machine) (w : Word) (j g u : ℕ) (x : Bool) (so_far : x ≡ same (answer_from G g (drop j w)) (answer_from U u (drop j w))) where
  module _ (i : ℕ) (t : Bool) (less : j < length w) (is : i ≡ get_or w j 0) (told : t ≡ eqb (G.output g i) (U.output u i)) where
    pub alike_more : (g' u' : ℕ) → not t ≡ false → g' ≡ G.next g i → u' ≡ U.next u i
        → x ≡ same (answer_from G g' (drop (j + 1) w)) (answer_from U u' (drop (j + 1) w))
    alike_more g' u' e to to' =
        so_far ∙ rw (to, to') (alike_on_lem _ _ _ _ _ _ t (answer_more G g w j i less is) (answer_more U u w j i less is) told e)

    pub alike_not : not t ≡ true → false ≡ x
    alike_not e = sym (so_far ∙ alike_other _ _ _ _ _ _ t (answer_more G g w j i less is) (answer_more U u w j i less is) told e)

  pub alike_end : length w ≤ j → true ≡ x
  alike_end ended = sym (so_far ∙ rw (answer_none G g w j ended, answer_none U u w j ended))

-- The answers of two states to the word w from its step j on differ where x says that the whole answers do.
module _ (G U : Machine) (w : Word) (j g u : ℕ) (x : Option ℕ) (so_far : x ≡ differ_from j (answer_from G g (drop j w)) (answer_from U u (drop j w))) where
  module _ (i : ℕ) (t : Bool) (less : j < length w) (is : i ≡ get_or w j 0) (told : t ≡ eqb (G.output g i) (U.output u i)) where
    pub differ_more : (g' u' : ℕ) → not t ≡ false → g' ≡ G.next g i → u' ≡ U.next u i
        → x ≡ differ_from (j + 1) (answer_from G g' (drop (j + 1) w)) (answer_from U u' (drop (j + 1) w))
    differ_more g' u' e to to' =
        so_far ∙ rw (to, to') (differ_on _ _ _ _ _ _ t (answer_more G g w j i less is) (answer_more U u w j i less is) told j e)

    pub differ_found : not t ≡ true → Some j ≡ x
    differ_found e = sym (so_far ∙ differ_here _ _ _ _ _ _ t (answer_more G g w j i less is) (answer_more U u w j i less is) told j e)

  pub differ_end : length w ≤ j → None ≡ x
  differ_end ended = sym (so_far ∙ rw (answer_none G g w j ended, answer_none U u w j ended))

-- The same of the answer of a state and the recorded outputs o.
module _ (G : Machine) (w : Word) (o : List ℕ) (j g : ℕ) (x : Option ℕ) (long : length o ≡ length w) (so_far : x ≡ differ_from j (answer_from G g (drop j w)) (drop j o)) where
  module _ (i : ℕ) (t : Bool) (less : j < length w) (is : i ≡ get_or w j 0) (told : t ≡ eqb (G.output g i) (get_or o j 0)) where
    pub recorded_more : (g' : ℕ) → not t ≡ false → g' ≡ G.next g i → x ≡ differ_from (j + 1) (answer_from G g' (drop (j + 1) w)) (drop (j + 1) o)
    recorded_more g' e to =
        so_far ∙ rw to (differ_on _ _ _ _ _ _ t (answer_more G g w j i less is) (rest_more o j (rw long less)) told j e)

    pub recorded_found : not t ≡ true → Some j ≡ x
    recorded_found e = sym (so_far ∙ differ_here _ _ _ _ _ _ t (answer_more G g w j i less is) (rest_more o j (rw long less)) told j e)

  pub recorded_end : length w ≤ j → None ≡ x
  recorded_end ended = sym (so_far ∙ rw (answer_none G g w j ended, rest_none o j (rw long ended)))
