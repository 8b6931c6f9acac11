-- Laws of the searches that the rules make over lists. A test says `true` or `false`; what `first` finds in a list that rises
-- is the least element that passes.
use Prim.Native.Nat.{ℕ, zero, suc, ◌+◌, ◌*◌, ◌≤◌, ◌<◌}
use native.Mathlib.Omega.{arith}
use Rattle.std.proofs.Math.Decide.{ℕ_discrete}
use Rattle.std.proofs.Common.{zero-add, add-zero, zero-mul, ◌∙◌, ap, ⊎_elim, true≢false, length-append, get_or-append-add}
use Rattle.std.proofs.Math.Nat.{suc-mul}
use Rattle.std.specs.Prelude.{◌≡◌, ◌⊎◌, Bool, true, false, get_or, take}
use Rattle.std.proofs.Math.Path.{refl, sym}
use Rattle.std.proofs.Math.Logic.{inl, inr}
use mathlib.Core.List.Memᴰ
use mathlib.Core.List.{List, [], ◌∷◌, ◌++◌, map, flat_map, append-nil, append_assoc}
use Rattle.std.proofs.lemmas.Bool.{false≢true}
use Rattle.std.proofs.Math.Option.{Option, none, some}
use Rattle.std.proofs.Math.ListN.{length, get_elem?, get_or-append}
use Rattle.rules.specs.Lists.{◌∈◌, numbers_from, placed_from, placed, any, all, first, keep}

-- a test has one of two outcomes
pub outcome : (b : Bool) → (b ≡ true) ⊎ (b ≡ false)
outcome true = inl refl
outcome false = inr refl

-- a search has one of two outcomes
pub optional : {A : Type 0} (o : Option A) → (o ≡ none) ⊎ ((x : A) × (o ≡ some x))
optional none = inl refl
optional (some x) = inr (x, refl)

-- both outcomes at once cannot be
pub clash : {B : Type 0} {b : Bool} → b ≡ true → b ≡ false → B
clash p q = absurd (true≢false (sym p ∙ q))

pub some_injective : {A : Type 0} {x y : A} → ◌≡◌ {A = Option A} (some x) (some y) → x ≡ y
some_injective e = cc

pub none_not_some : {A B : Type 0} {x : A} → ◌≡◌ {A = Option A} none (some x) → B
none_not_some e = let z : ◌≡◌ {A = ℕ} 0 1 = cc in absurd (omega arith)

module _ {A : Type 0} (test : A → Bool) where
  pub any-true : (l : List A) → any test l ≡ true → (x : A) × (x ∈ l) × (test x ≡ true)
  any-true [] e = absurd (false≢true e)
  any-true (x ∷ l) e =
      elim (outcome (test x)) [
        | inl p ↦ (x, Memᴰ.head refl, p)
        | inr p ↦ let (z, m, h) = any-true l (rw p at e) in (z, Memᴰ.tail m, h)
      ]

  pub any_of : {x : A} {l : List A} → x ∈ l → test x ≡ true → any test l ≡ true
  any_of (Memᴰ.head e) p = rw (← e, p)
  any_of (Memᴰ.tail {x = z} m) p =
      elim (outcome (test z)) [ inl q ↦ rw q | inr q ↦ rw q (any_of m p) ]

  pub any_false : {x : A} {l : List A} → any test l ≡ false → x ∈ l → test x ≡ false
  any_false {x} e m = elim (outcome (test x)) [ inl p ↦ clash (any_of m p) e | inr p ↦ p ]

  pub none_any : (l : List A) → ((x : A) → x ∈ l → test x ≡ false) → any test l ≡ false
  none_any l h = elim (outcome (any test l)) [ inl p ↦ let (x, m, q) = any-true l p in clash q (h x m) | inr p ↦ p ]

  pub all_true : {x : A} {l : List A} → all test l ≡ true → x ∈ l → test x ≡ true
  all_true e (Memᴰ.head {x = z} h) =
      rw h (elim (outcome (test z)) [ inl p ↦ p | inr p ↦ absurd (false≢true (rw p at e)) ])
  all_true {x} e (Memᴰ.tail {x = z} m) =
      elim (outcome (test z)) [ inl p ↦ all_true (rw p at e) m | inr p ↦ absurd (false≢true (rw p at e)) ]

  pub all_of : (l : List A) → ((x : A) → x ∈ l → test x ≡ true) → all test l ≡ true
  all_of [] h = refl
  all_of (x ∷ l) h = rw (h x (Memᴰ.head refl)) (all_of l (λ z m. h z (Memᴰ.tail m)))

  -- where not all pass, one does not
  pub all-false : (l : List A) → all test l ≡ false → (x : A) × (x ∈ l) × (test x ≡ false)
  all-false [] e = absurd (true≢false e)
  all-false (x ∷ l) e =
      elim (outcome (test x)) [
        | inl p ↦ let (z, m, h) = all-false l (rw p at e) in (z, Memᴰ.tail m, h)
        | inr p ↦ (x, Memᴰ.head refl, p)
      ]

  pub in_keep : {x : A} {l : List A} → x ∈ l → test x ≡ true → x ∈ keep test l
  in_keep (Memᴰ.head {x = z} h) p = rw (rw h at p) (Memᴰ.head h)
  in_keep {x} (Memᴰ.tail {x = z} m) p =
      elim (outcome (test z)) [ inl q ↦ rw q (Memᴰ.tail (in_keep m p)) | inr q ↦ rw q (in_keep m p) ]

  pub of_keep : {x : A} (l : List A) → x ∈ keep test l → (x ∈ l) × (test x ≡ true)
  of_keep [] m = absurd (Memᴰ.not-nil m)
  of_keep (z ∷ l) m =
      elim (outcome (test z)) [
        | inl q ↦
            elim (Memᴰ.cases_cons (rw q at m)) [
              | inl e ↦ (Memᴰ.head e, rw e q)
              | inr n ↦ let (i, p) = of_keep l n in (Memᴰ.tail i, p)
            ]
        | inr q ↦ let (i, p) = of_keep l (rw q at m) in (Memᴰ.tail i, p)
      ]

  pub first-none : {x : A} {l : List A} → first test l ≡ none → x ∈ l → test x ≡ false
  first-none e (Memᴰ.head {x = z} h) =
      rw h (elim (outcome (test z)) [ inl p ↦ none_not_some (sym (rw p at e)) | inr p ↦ p ])
  first-none e (Memᴰ.tail {x = z} m) =
      elim (outcome (test z)) [ inl p ↦ none_not_some (sym (rw p at e)) | inr p ↦ first-none (rw p at e) m ]

  pub none_first : (l : List A) → ((x : A) → x ∈ l → test x ≡ false) → first test l ≡ none
  none_first [] h = refl
  none_first (x ∷ l) h = rw (h x (Memᴰ.head refl)) (none_first l (λ z m. h z (Memᴰ.tail m)))

  pub first_some : {x : A} (l : List A) → first test l ≡ some x → (x ∈ l) × (test x ≡ true)
  first_some [] e = none_not_some e
  first_some {x} (z ∷ l) e =
      elim (outcome (test z)) [
        | inl p ↦ let is : z ≡ x = some_injective (rw p at e) in (Memᴰ.head (sym is), rw (← is) p)
        | inr p ↦ let (m, q) = first_some l (rw p at e) in (Memᴰ.tail m, q)
      ]

-- Two tests that agree on the elements of a list find the same.
pub first_same : {A : Type 0} (f g : A → Bool) (l : List A) → ((x : A) → x ∈ l → f x ≡ g x) → first f l ≡ first g l
first_same f g [] h = refl
first_same f g (x ∷ l) h = rw (h x (Memᴰ.head refl), first_same f g l (λ y m. h y (Memᴰ.tail m)))

-- A search in one list and then in another.
pub first_left : {A : Type 0} (test : A → Bool) (l r : List A) {x : A} → first test l ≡ some x → first test (l ++ r) ≡ some x
first_left test [] r e = none_not_some e
first_left test (a ∷ l) r e =
    elim (outcome (test a)) [ inl p ↦ rw p (rw p at e) | inr p ↦ rw p (first_left test l r (rw p at e)) ]

pub first_right : {A : Type 0} (test : A → Bool) (l r : List A) → first test l ≡ none → first test (l ++ r) ≡ first test r
first_right test [] r e = refl
first_right test (a ∷ l) r e =
    elim (outcome (test a)) [ inl p ↦ none_not_some (sym (rw p at e)) | inr p ↦ rw p (first_right test l r (rw p at e)) ]

-- A list does not grow when some are kept of it, nor when places are put beside its elements.
pub keep-length : {A : Type 0} (test : A → Bool) (l : List A) → length (keep test l) ≤ length l
keep-length test [] = omega arith
keep-length test (a ∷ l) =
    elim (outcome (test a)) [ inl p ↦ rw p (omega (arith, keep-length test l)) | inr p ↦ rw p (omega (arith, keep-length test l)) ]

-- It gets shorter where one of its elements is not kept.
pub keep_shorter : {A : Type 0} (test : A → Bool) {x : A} {l : List A} → x ∈ l → test x ≡ false → length (keep test l) < length l
keep_shorter test (Memᴰ.head {x = z} {xs = l} h) p = rw (rw h at p) (omega (arith, keep-length test l))
keep_shorter test (Memᴰ.tail {x = z} m) p =
    let less = keep_shorter test m p in
    elim (outcome (test z)) [ inl q ↦ rw q (omega arith) | inr q ↦ rw q (omega arith) ]

pub placed_length : {A : Type 0} (i : ℕ) (l : List A) → length (placed_from i l) ≡ length l
placed_length i [] = refl
placed_length i (a ∷ l) = ap suc (placed_length (suc i) l)

-- each element comes before all that follow it
abbrev pub Rising : {A : Type 0} → (A → A → Type 0) → List A → Type 0
Rising before [] = Unit {0}
Rising {A} before (x ∷ l) = ((y : A) → y ∈ l → before x y) × Rising before l

-- no two things come before each other
abbrev pub OneWay : {A : Type 0} → (A → A → Type 0) → Type 0
OneWay {A} before = (x y : A) → before x y → before y x → ⊥

-- x passes, and whatever comes before it does not
pub record Least {A : Type 0} (before : A → A → Type 0) (test : A → Bool) (l : List A) (x : A) : Type 0 where
  pub found : x ∈ l
  pub passes : test x ≡ true
  pub earlier : (y : A) → y ∈ l → before y x → test y ≡ false

module _ {A : Type 0} (before : A → A → Type 0) (one_way : OneWay before) (test : A → Bool) where
  pub first_least : {x : A} (l : List A) → Rising before l → first test l ≡ some x → Least before test l x
  first_least [] rising e = none_not_some e
  first_least {x} (z ∷ l) (ahead, rising) e =
      elim (outcome (test z)) [
        | inl p ↦
            let same : z ≡ x = some_injective (rw p at e) in
            record {
              found = Memᴰ.head (sym same);
              passes = rw (← same) p;
              earlier = λ y m b.
                  elim (Memᴰ.cases_cons m) [
                    | inl h ↦ let b' : before z z = rw (h, ← same) at b in absurd (one_way z z b' b')
                    | inr n ↦ absurd (one_way z y (ahead y n) (rw (← same) at b))
                  ];
            }
        | inr p ↦
            let least = first_least l rising (rw p at e) in
            record {
              found = Memᴰ.tail least.found;
              passes = least.passes;
              earlier = λ y m b.
                  elim (Memᴰ.cases_cons m) [
                    | inl h ↦ rw h p
                    | inr n ↦ least.earlier y n b
                  ];
            }
      ]

  pub least_first : {x : A} (l : List A) → Rising before l → Least before test l x → first test l ≡ some x
  least_first [] rising least = absurd (Memᴰ.not-nil least.found)
  least_first {x} (z ∷ l) (ahead, rising) least =
      elim (Memᴰ.cases_cons least.found) [
        | inl h ↦ rw (rw h at least.passes, h)
        | inr n ↦
            rw (least.earlier z (Memᴰ.head refl) (ahead x n))
            (least_first l rising (record { found = n; passes = least.passes; earlier = λ y m b. least.earlier y (Memᴰ.tail m) b }))
      ]

-- What stands at a place inside a list is an element of it.
pub get_or_in : {A : Type 0} (l : List A) (j : ℕ) (d : A) → j < length l → get_or l j d ∈ l
get_or_in [] j d h = absurd (omega arith)
get_or_in (x ∷ l) zero d h = Memᴰ.head refl
get_or_in (x ∷ l) (suc j) d h = Memᴰ.tail (get_or_in l j d (omega arith))

-- Whether some element of a list has a property.
pub some_in : {A : Type 0} {P : A → Type 0} → ((x : A) → Dec (P x)) → (l : List A) → Dec ((x : A) × (x ∈ l) × P x)
some_in dec [] = no (λ (x, m, p). Memᴰ.not-nil m)
some_in dec (a ∷ l) =
    elim (dec a) [
      | yes p ↦ yes (a, Memᴰ.head refl, p)
      | no np ↦
          elim (some_in dec l) [
            | yes (x, m, p) ↦ yes (x, Memᴰ.tail m, p)
            | no nowhere ↦ no (λ (x, m, p). ⊎_elim (λ e. np (rw e at p)) (λ m'. nowhere (x, m', p)) (Memᴰ.cases_cons m))
          ]
    ]

module _ {A B : Type 0} (f : A → List B) where
  pub in_flat_map : {x : A} {y : B} {l : List A} → x ∈ l → y ∈ f x → y ∈ flat_map f l
  unfolding flat_map
  in_flat_map (Memᴰ.head e) m = Memᴰ.append_left _ (rw e at m)
  in_flat_map (Memᴰ.tail {x = z} n) m = Memᴰ.append_right (f z) (in_flat_map n m)

  pub of_flat_map : {y : B} (l : List A) → y ∈ flat_map f l → (x : A) × (x ∈ l) × (y ∈ f x)
  unfolding flat_map
  of_flat_map [] m = absurd (Memᴰ.not-nil m)
  of_flat_map (x ∷ l) m =
      elim (Memᴰ.append_cases (f x) m) [
        | inl here ↦ (x, Memᴰ.head refl, here)
        | inr later ↦ let (z, in_z, in_y) = of_flat_map l later in (z, Memᴰ.tail in_z, in_y)
      ]

  pub flat_map_append : (l r : List A) → flat_map f (l ++ r) ≡ flat_map f l ++ flat_map f r
  unfolding flat_map
  flat_map_append [] r = refl
  flat_map_append (x ∷ l) r = rw (flat_map_append l r, append_assoc)

  -- One element more makes what is made of it come last.
  pub flat_map_last : (l : List A) (x : A) → flat_map f (l ++ (x ∷ [])) ≡ flat_map f l ++ f x
  unfolding flat_map
  flat_map_last l x = rw (flat_map_append l (x ∷ []), append-nil)

-- What stands at a place of a list.
abbrev pub At : {A : Type 0} → List A → ℕ → A → Type 0
At l i x = get_elem? l i ≡ some x

module _ {A : Type 0} where
  pub at_in : (l : List A) (i : ℕ) {x : A} → At l i x → x ∈ l
  at_in [] i e = none_not_some e
  at_in (z ∷ l) zero e = Memᴰ.head (sym (some_injective e))
  at_in (z ∷ l) (suc i) e = Memᴰ.tail (at_in l i e)

  pub in_at : {x : A} {l : List A} → x ∈ l → (i : ℕ) × At l i x
  in_at (Memᴰ.head h) = (0, rw h)
  in_at (Memᴰ.tail m) = let (i, e) = in_at m in (suc i, e)

  pub at_below : (l : List A) (i : ℕ) {x : A} → At l i x → i < length l
  at_below [] i e = none_not_some e
  at_below (z ∷ l) zero e = omega arith
  at_below (z ∷ l) (suc i) e = let h = at_below l i e in omega arith

  pub at_get_d : (l : List A) (i : ℕ) (d : A) {x : A} → At l i x → get_or l i d ≡ x
  at_get_d [] i d e = none_not_some e
  at_get_d (z ∷ l) zero d e = some_injective e
  at_get_d (z ∷ l) (suc i) d e = at_get_d l i d e

  pub in_take : (l : List A) (i j : ℕ) {x : A} → At l j x → j < i → x ∈ take i l
  in_take l zero j e h = absurd (omega arith)
  in_take [] (suc i) j e h = none_not_some e
  in_take (z ∷ l) (suc i) zero e h = Memᴰ.head (sym (some_injective e))
  in_take (z ∷ l) (suc i) (suc j) e h = Memᴰ.tail (in_take l i j e (omega arith))

  pub of_take : (l : List A) (i : ℕ) {x : A} → x ∈ take i l → (j : ℕ) × (j < i) × At l j x
  of_take l zero m = absurd (Memᴰ.not-nil m)
  of_take [] (suc i) m = absurd (Memᴰ.not-nil m)
  of_take (z ∷ l) (suc i) m =
      elim (Memᴰ.cases_cons m) [
        | inl h ↦ (0, omega arith, rw h)
        | inr n ↦ let (j, less, at) = of_take l i n in (suc j, omega arith, at)
      ]

  in_placed_from : (k : ℕ) (l : List A) (i : ℕ) {x : A} → At l i x → (k + i, x) ∈ placed_from k l
  in_placed_from k [] i e = none_not_some e
  in_placed_from k (z ∷ l) zero e = rw add-zero (Memᴰ.head (ap (λ y. (k, y)) (sym (some_injective e))))
  in_placed_from k (z ∷ l) (suc i) e =
      let h : k + suc i ≡ suc k + i = omega arith in rw h (Memᴰ.tail (in_placed_from (suc k) l i e))

  pub in_placed : (l : List A) (i : ℕ) {x : A} → At l i x → (i, x) ∈ placed l
  in_placed l i e = rw zero-add at (in_placed_from 0 l i e)

  of_placed_from : (k : ℕ) (l : List A) {p : ℕ × A} → p ∈ placed_from k l → (k ≤ p.0) × ((i : ℕ) → p.0 ≡ k + i → At l i p.1)
  of_placed_from k [] m = absurd (Memᴰ.not-nil m)
  of_placed_from k (z ∷ l) {p} m =
      elim (Memᴰ.cases_cons m) [
        | inl h ↦
            let h₀ : p.0 ≡ k = ap (λ (q : ℕ × A). q.0) h in
            (omega arith, λ i e. let z₀ : i ≡ 0 = omega arith in rw z₀ (ap (λ (q : ℕ × A). some q.1) (sym h)))
        | inr n ↦
            let (le, at) = of_placed_from (suc k) l n in
            (omega arith, elim [ zero ↦ λ e. absurd (omega arith) | suc i ↦ λ e. at i (omega arith) ])
      ]

  pub of_placed : (l : List A) {p : ℕ × A} → p ∈ placed l → At l p.0 p.1
  of_placed l {p} m = (of_placed_from 0 l m).1 p.0 (sym (zero-add p.0))

pub in_numbers : (i n q : ℕ) → i ≤ q → q < i + n → q ∈ numbers_from i n
in_numbers i zero q le lt = absurd (omega arith)
in_numbers i (suc n) q le lt =
    elim (ℕ_discrete q i) [ yes e ↦ Memᴰ.head e | no ne ↦ Memᴰ.tail (in_numbers (suc i) n q (omega arith) (omega arith)) ]

pub of_numbers : (i n : ℕ) {q : ℕ} → q ∈ numbers_from i n → (i ≤ q) × (q < i + n)
of_numbers i zero m = absurd (Memᴰ.not-nil m)
of_numbers i (suc n) m =
    elim (Memᴰ.cases_cons m) [
      | inl e ↦ (omega arith, omega arith)
      | inr m' ↦ let (le, lt) = of_numbers (suc i) n m' in (omega arith, omega arith)
    ]

pub numbers_rising : (i n : ℕ) → Rising ◌<◌ (numbers_from i n)
numbers_rising i zero = tt
numbers_rising i (suc n) = (λ q m. (of_numbers (suc i) n m).0, numbers_rising (suc i) n)

-- Things with places are in the order of their places.
abbrev pub ByPlace : {A : Type 0} → ℕ × A → ℕ × A → Type 0
ByPlace p q = p.0 < q.0

placed_from_rising : {A : Type 0} (k : ℕ) (l : List A) → Rising ByPlace (placed_from k l)
placed_from_rising k [] = tt
placed_from_rising k (z ∷ l) = (λ q m. (of_placed_from (suc k) l m).0, placed_from_rising (suc k) l)

pub placed_rising : {A : Type 0} (l : List A) → Rising ByPlace (placed l)
placed_rising l = placed_from_rising 0 l

module _ {A : Type 0} (before : A → A → Type 0) where
  pub append_rising : (l r : List A) → Rising before l → Rising before r → ((x y : A) → x ∈ l → y ∈ r → before x y) → Rising before (l ++ r)
  append_rising [] r rl rr h = rr
  append_rising (x ∷ l) r (ahead, rl) rr h = (
    λ y m. elim (Memᴰ.append_cases l m) [ inl n ↦ ahead y n | inr n ↦ h x y (Memᴰ.head refl) n ],
    append_rising l r rl rr (λ a b m n. h a b (Memᴰ.tail m) n),
  )

-- A list rises in another order too, if that order keeps the first among its elements.
pub rising_too : {A : Type 0} (before before' : A → A → Type 0) (l : List A) → ((x y : A) → x ∈ l → y ∈ l → before x y → before' x y)
    → Rising before l → Rising before' l
rising_too before before' [] keeps r = tt
rising_too before before' (x ∷ l) keeps (ahead, r) = (
  λ y m. keeps x y (Memᴰ.head refl) (Memᴰ.tail m) (ahead y m),
  rising_too before before' l (λ y z m n. keeps y z (Memᴰ.tail m) (Memᴰ.tail n)) r,
)

module _ {A B : Type 0} (before : A → A → Type 0) (before' : B → B → Type 0) where
  pub map_rising : (f : A → B) → ((x y : A) → before x y → before' (f x) (f y)) → (l : List A) → Rising before l → Rising before' (map f l)
  map_rising f h [] r = tt
  map_rising f h (x ∷ l) (ahead, r) = (
    λ y m. let (z, in_z, e) = Memᴰ.of_map f l m in rw (← e) (h x z (ahead z in_z)),
    map_rising f h l r,
  )

  pub flat_map_rising : (f : A → List B) → ((x : A) → Rising before' (f x)) → ((x y : A) → before x y → (a b : B) → a ∈ f x → b ∈ f y → before' a b)
      → (l : List A) → Rising before l → Rising before' (flat_map f l)
  unfolding flat_map
  flat_map_rising f inner outer [] r = tt
  flat_map_rising f inner outer (x ∷ l) (ahead, r) =
      append_rising before' (f x) (flat_map f l) (inner x) (flat_map_rising f inner outer l r)
      (λ a b in_a in_b. let (y, in_y, in_b') = of_flat_map f l in_b in outer x y (ahead y in_y) a b in_a in_b')

-- the element x at place i passes, and none at an earlier place does
pub record FirstAt {A : Type 0} (test : ℕ × A → Bool) (l : List A) (i : ℕ) (x : A) : Type 0 where
  pub here : At l i x
  pub passes : test (i, x) ≡ true
  pub earlier : (j : ℕ) (y : A) → j < i → At l j y → test (j, y) ≡ false

module _ {A : Type 0} (test : ℕ × A → Bool) (l : List A) where
  places_one_way : OneWay (ByPlace {A = A})
  places_one_way p q a b = omega arith

  pub found_at : {i : ℕ} {x : A} → first test (placed l) ≡ some (i, x) → FirstAt test l i x
  found_at {i} {x} e =
      let least = first_least ByPlace places_one_way test (placed l) (placed_rising l) e in
      record {
        here = of_placed l least.found;
        passes = least.passes;
        earlier = λ j y h at. least.earlier (j, y) (in_placed l j at) h;
      }

  pub at_found : {i : ℕ} {x : A} → FirstAt test l i x → first test (placed l) ≡ some (i, x)
  at_found {i} {x} f =
      least_first ByPlace places_one_way test (placed l) (placed_rising l)
      (record { found = in_placed l i f.here; passes = f.passes; earlier = λ (j, y) m h. f.earlier j y h (of_placed l m) })

  pub none_at : first test (placed l) ≡ none → (i : ℕ) (x : A) → At l i x → test (i, x) ≡ false
  none_at e i x at = first-none test e (in_placed l i at)

  pub at_none : ((i : ℕ) (x : A) → At l i x → test (i, x) ≡ false) → first test (placed l) ≡ none
  at_none h = none_first test (placed l) (λ (i, x) m. h i x (of_placed l m))

-- Lists with the same at each place are the same,
pub same_places : {A : Type 0} (l r : List A) → length l ≡ length r → ((i : ℕ) → i < length l → (x : A) × At l i x × At r i x) → l ≡ r
same_places [] [] e h = refl
same_places [] (y ∷ r) e h = absurd (omega arith)
same_places (x ∷ l) [] e h = absurd (omega arith)
same_places (x ∷ l) (y ∷ r) e h =
    let (z, here, there) = h 0 (omega arith) in
    let heads : x ≡ y = some_injective (here ∙ sym there) in
    let tails : l ≡ r = same_places l r (omega arith) (λ i less. h (suc i) (omega arith)) in
    cc

-- and so are lists that rise in one order and have the same elements.
pub same_elements : {A : Type 0} (before : A → A → Type 0) → OneWay before → (l r : List A) → Rising before l → Rising before r
    → ((x : A) → x ∈ l → x ∈ r) → ((x : A) → x ∈ r → x ∈ l) → l ≡ r
same_elements before one_way [] [] rl rr to back = refl
same_elements before one_way [] (y ∷ r) rl rr to back = absurd (Memᴰ.not-nil (back y (Memᴰ.head refl)))
same_elements before one_way (x ∷ l) [] rl rr to back = absurd (Memᴰ.not-nil (to x (Memᴰ.head refl)))
same_elements {A} before one_way (x ∷ l) (y ∷ r) (ahead, rl) (ahead', rr) to back =
    let tails : l ≡ r =
    same_elements before one_way l r rl rr
    (λ z m. elim (Memᴰ.cases_cons (to z (Memᴰ.tail m))) [ inl e ↦ absurd (irreflexive x (rw (e ∙ sym heads) at (ahead z m))) | inr n ↦ n ])
    (λ z m. elim (Memᴰ.cases_cons (back z (Memᴰ.tail m))) [ inl e ↦ absurd (irreflexive y (rw (e ∙ heads) at (ahead' z m))) | inr n ↦ n ])
    in
    cc heads
  where
    irreflexive : (z : A) → ¬ before z z
    irreflexive z h = one_way z z h h

    heads : x ≡ y
    heads =
        elim (Memᴰ.cases_cons (to x (Memᴰ.head refl))) [
          | inl e ↦ e
          | inr m ↦
              elim (Memᴰ.cases_cons (back y (Memᴰ.head refl))) [ inl e ↦ sym e | inr n ↦ absurd (one_way x y (ahead y n) (ahead' x m)) ]
        ]

-- What stands at a place of the numbers, and of what is made of each element of a list.
pub numbers_at : (i n q : ℕ) → q < n → At (numbers_from i n) q (i + q)
numbers_at i zero q h = absurd (omega arith)
numbers_at i (suc n) zero h = rw add-zero
numbers_at i (suc n) (suc q) h = let e : i + suc q ≡ suc i + q = omega arith in rw e (numbers_at (suc i) n q (omega arith))

pub numbers_length : (i n : ℕ) → length (numbers_from i n) ≡ n
numbers_length i zero = refl
numbers_length i (suc n) = ap suc (numbers_length (suc i) n)

pub map_at : {A B : Type 0} (f : A → B) (l : List A) (i : ℕ) {x : A} → At l i x → At (map f l) i (f x)
map_at f [] i e = none_not_some e
map_at f (a ∷ l) zero e = ap (λ y. some (f y)) (some_injective e)
map_at f (a ∷ l) (suc i) e = map_at f l i e

pub map-length : {A B : Type 0} (f : A → B) (l : List A) → length (map f l) ≡ length l
map-length f [] = refl
map-length f (a ∷ l) = ap suc (map-length f l)

-- What stands at a place of a table whose rows are made of one list and whose columns of another.
pub map_get_d : {A B : Type 0} (f : A → B) (l : List A) (i : ℕ) (a : A) (b : B) → i < length l → get_or (map f l) i b ≡ f (get_or l i a)
map_get_d f [] i a b h = absurd (omega arith)
map_get_d f (x ∷ l) zero a b h = refl
map_get_d f (x ∷ l) (suc i) a b h = map_get_d f l i a b (omega arith)

pub numbers_get_d : (j n i d : ℕ) → i < n → get_or (numbers_from j n) i d ≡ j + i
numbers_get_d j zero i d h = absurd (omega arith)
numbers_get_d j (suc n) zero d h = sym (add-zero j)
numbers_get_d j (suc n) (suc i) d h = let e : j + suc i ≡ suc j + i = omega arith in rw e (numbers_get_d (suc j) n i d (omega arith))

module _ {A B C : Type 0} (f : A → B → C) where
  pub rows_get_d : (l : List A) (r : List B) (q i : ℕ) (a : A) (b : B) (c : C) → q < length l → i < length r
      → get_or (flat_map (λ x. map (f x) r) l) (q * length r + i) c ≡ f (get_or l q a) (get_or r i b)
  unfolding flat_map
  rows_get_d [] r q i a b c state input = absurd (omega arith)
  rows_get_d (x ∷ l) r zero i a b c state input =
      let long = map-length (f x) r in
      let e : 0 * length r + i ≡ i = omega arith in
      rw e (get_or-append (map (f x) r) (flat_map (λ x. map (f x) r) l) c i (omega arith) ∙ map_get_d (f x) r i b c input)
  rows_get_d (x ∷ l) r (suc q) i a b c state input =
      let long = map-length (f x) r in
      let e : suc q * length r + i ≡ length (map (f x) r) + (q * length r + i) = rw (long, suc-mul q (length r)) (omega arith) in
      rw e (get_or-append-add (map (f x) r) (flat_map (λ x. map (f x) r) l) (q * length r + i) c ∙ rows_get_d l r q i a b c (omega arith) input)

  pub rows_length : (l : List A) (r : List B) → length (flat_map (λ x. map (f x) r) l) ≡ length l * length r
  unfolding flat_map
  rows_length [] r = sym (zero-mul (length r))
  rows_length (x ∷ l) r =
      rw (length-append (map (f x) r) (flat_map (λ x. map (f x) r) l), map-length (f x) r, rows_length l r, suc-mul (length l) (length r)) (omega arith)

-- Of two elements of a list that rises one comes before the other, unless they are the same.
pub rising_either : {A : Type 0} (before : A → A → Type 0) (l : List A) → Rising before l → (x y : A) → x ∈ l → y ∈ l → (x ≡ y) ⊎ (before x y ⊎ before y x)
rising_either before [] rising x y m n = absurd (Memᴰ.not-nil m)
rising_either before (z ∷ l) (ahead, rising) x y m n =
    elim (Memᴰ.cases_cons m) [
      | inl e ↦ elim (Memᴰ.cases_cons n) [ inl e' ↦ inl (e ∙ sym e') | inr n' ↦ inr (inl (rw e (ahead y n'))) ]
      | inr m' ↦ elim (Memᴰ.cases_cons n) [ inl e' ↦ inr (inr (rw e' (ahead x m'))) | inr n' ↦ rising_either before l rising x y m' n' ]
    ]
