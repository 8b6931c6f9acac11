-- The first needed word that begins no test, found block by block.
use Prim.Native.Nat.{ℕ, ◌+◌, ◌≤◌, ◌<◌}
use native.Mathlib.Omega.{arith}
use native.Mathlib.Numerals.{add-one}
use mathlib.Core.Path.{◌≡◌, refl, ◌∙◌, ap}
use mathlib.Core.Logic.{inl, inr}
use mathlib.Core.List.{List, [], ◌∷◌, ◌++◌, map, flat_map}
use mathlib.Core.Bool.{Bool, true, false, not}
use mathlib.Core.Option.{Option, none, some}
use lib.ListN.{length, get_or, drop, drop_of_length-le}
use lib.Seq.{drop-cons}
use Rattle.rules.specs.declared.Refusal.{Refusal}
use Rattle.rules.specs.declared.Refusal.TheVariants.{Missing}
use Rattle.rules.specs.Lists.{placed, any, first}
use Rattle.rules.specs.Words.{Word, begins}
use Rattle.rules.specs.Files.{DossierData}
use Rattle.rules.specs.Needed.{Need, needed, middles, missing}
use Rattle.rules.specs.Answers.{middle_of}
use Rattle.rules.specs.Operations.{require_none, enough}
use Rattle.theory.specs.Lists.{outcome, optional, first_left, first_right}
use Rattle.soundness.specs.Lent.{finding_of}
use Rattle.trie_filing.specs.Distinct.{firsts}
use Rattle.std.specs.Prelude.{Ok, Err}
use Rattle.checker_search.specs.Blocks.{Finding, or_else, scan, lacking_at, found_at, at_middle, at_cover, at_all}
use Rattle.trie_filing.proofs.Firsts.{first-firsts}

-- what is said of a needed word that was found
abbrev need_found : Option Need → Finding
need_found none = Ok tt
need_found (some x) = Err (Missing x.cover_place (middle_of x.middle) x.separator_place)

need_found_lem : (o : Option Need) → finding_of (require_none o (λ x. Missing x.cover_place (middle_of x.middle) x.separator_place)) ≡ need_found o
need_found_lem none = refl
need_found_lem (some x) = refl

pub scan_same : {A : Type 0} (f g : A → Finding) → ((a : A) → f a ≡ g a) → (l : List A) → scan f l ≡ scan g l
unfolding scan
scan_same f g h [] = refl
scan_same f g h (a ∷ l) = rw (h a, scan_same f g h l)

scan_blocks : {A : Type 0} (test : Need → Bool) (g : A → List Need) (l : List A) → need_found (first test (flat_map g l)) ≡ scan (λ a. need_found (first test (g a))) l
unfolding scan flat_map
scan_blocks test g [] = refl
scan_blocks test g (a ∷ l) =
    elim (optional (first test (g a))) [
      | inl e ↦ rw (first_right test (g a) (flat_map g l) e, e) (scan_blocks test g l)
      | inr (x, e) ↦ rw (first_left test (g a) (flat_map g l) e, e)
    ]

abbrev need_at : ℕ → Word → Word → ℕ × Word → Need
need_at i c y (j, s) = record { cover_place = i; middle = y; separator_place = j; word = c ++ y ++ s }

block : (tests : List Word) (i : ℕ) (c y : Word) (l : List (ℕ × Word))
    → need_found (first (λ (x : Need). not (any (begins x.word) tests)) (map (need_at i c y) l)) ≡ found_at i y (first (lacking_at tests (c ++ y)) l)
block tests i c y [] = refl
block tests i c y ((j, s) ∷ l) =
    elim (outcome (lacking_at tests (c ++ y) (j, s))) [
      | inl p ↦ rw p
      | inr p ↦ rw p (block tests i c y l)
    ]

-- 11, block by block
pub enough_is : (d : DossierData) → finding_of (enough d) ≡ at_all d.tests (placed d.separating) (middles d) d.cover
unfolding enough missing needed
enough_is d =
    let test : Need → Bool = λ x. not (any (begins x.word) d.tests) in
    need_found_lem (first test (needed d))
    ∙ scan_blocks test (λ (p : ℕ × Word). flat_map (λ y. map (need_at p.0 p.1 y) (placed d.separating)) (middles d)) (placed d.cover)
    ∙ scan_same _ _
    (λ p.
    scan_blocks test (λ y. map (need_at p.0 p.1 y) (placed d.separating)) (middles d)
    ∙ scan_same _ _ (λ y. block d.tests p.0 p.1 y (placed d.separating)) (middles d))
    (placed d.cover)

-- and each separating word once
pub enough_once : (d : DossierData) → finding_of (enough d) ≡ at_all d.tests (firsts d.separating) (middles d) d.cover
enough_once d =
    enough_is d
    ∙ scan_same _ _ (λ p. scan_same _ _ (λ y. ap (found_at p.0 y) (first-firsts (λ w. not (any (begins ((p.1 ++ y) ++ w)) d.tests)) d.separating)) (middles d)) (placed d.cover)

-- one turn of a scan
pub scan_fine : {A : Type 0} (f : A → Finding) (a : A) (l : List A) → f a ≡ Ok tt → scan f (a ∷ l) ≡ scan f l
unfolding scan
scan_fine f a l e = rw e

pub scan_refused : {A : Type 0} (f : A → Finding) (a : A) (l : List A) (r : Refusal) → f a ≡ Err r → scan f (a ∷ l) ≡ Err r
unfolding scan
scan_refused f a l r e = rw e

pub scan_end : {A : Type 0} (f : A → Finding) → scan f [] ≡ Ok tt
unfolding scan
scan_end f = refl

-- what is left of a list at a place
pub left_cons : {A : Type 0} (l : List A) (i : ℕ) (d : A) → i < length l → drop i l ≡ get_or l i d ∷ drop (i + 1) l
left_cons l i d less = rw (add-one, drop-cons l i d less)

module _ {A : Type 0} (test : A → Bool) (l : List A) (i : ℕ) (d : A) where
  pub first_here : i < length l → test (get_or l i d) ≡ true → first test (drop i l) ≡ some (get_or l i d)
  first_here less e = rw (left_cons l i d less, e)

  pub first_later : i < length l → test (get_or l i d) ≡ false → first test (drop i l) ≡ first test (drop (i + 1) l)
  first_later less e = ap (first test) (left_cons l i d less) ∙ rw e

  pub first_end : length l ≤ i → first test (drop i l) ≡ none
  first_end h = rw (drop_of_length-le l h)

-- where nothing is found, nothing is found for another number of the cover word
found_none : (i : ℕ) (y : Word) (o : Option (ℕ × Word)) → found_at i y o ≡ Ok tt → o ≡ none
found_none i y none e = refl
found_none i y (some (j, s)) e = let z : ◌≡◌ {A = ℕ} 0 1 = cc in absurd (omega arith)

or_fine : (a b : Finding) → or_else a b ≡ Ok tt → (a ≡ Ok tt) × (b ≡ Ok tt)
or_fine (Ok u) b e = (refl, e)
or_fine (Err r) b e = let z : ◌≡◌ {A = ℕ} 0 1 = cc in absurd (omega arith)

pub other_number : (tests : List Word) (separators : List (ℕ × Word)) (ms : List Word) (u : Word) (i j : ℕ)
    → at_cover tests separators ms (i, u) ≡ Ok tt → at_cover tests separators ms (j, u) ≡ Ok tt
unfolding scan
other_number tests separators [] u i j e = refl
other_number tests separators (y ∷ ms) u i j e =
    let (here, later) = or_fine (at_middle tests separators i u y) (scan (at_middle tests separators i u) ms) e in
    let none_here = found_none i y (first (lacking_at tests (u ++ y)) separators) here in
    rw none_here (other_number tests separators ms u i j later)
