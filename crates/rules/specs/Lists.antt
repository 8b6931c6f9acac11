-- What the other files say of lists in general. Places count from 0 (document 01, "Operations and answers").
use Rattle.std.specs.Prelude.{ℕ, zero, suc, ◌+◌, Bool, true, false, cond, ◌&&◌, ◌||◌}
use mathlib.Core.List.{List, [], ◌∷◌, Memᴰ}
use Rattle.std.proofs.Math.Option.{Option, none, some}

infix 4 ◌∈◌
abbrev pub ◌∈◌ : {A : Type 0} → A → List A → Type 0
x ∈ l = Memᴰ x l

-- n numbers from i on
abbrev pub numbers_from : ℕ → ℕ → List ℕ
numbers_from i zero = []
numbers_from i (suc n) = i ∷ numbers_from (suc i) n

-- the numbers below n
abbrev pub numbers : ℕ → List ℕ
numbers n = numbers_from 0 n

abbrev pub sum : List ℕ → ℕ
sum [] = 0
sum (x ∷ l) = x + sum l

module _ {A : Type 0} where
  -- each element with its place, the first one's being i
  abbrev pub placed_from : ℕ → List A → List (ℕ × A)
  placed_from i [] = []
  placed_from i (x ∷ l) = (i, x) ∷ placed_from (suc i) l

  -- each element with its place
  abbrev pub placed : List A → List (ℕ × A)
  placed l = placed_from 0 l

  -- whether some element passes the test
  abbrev pub any : (A → Bool) → List A → Bool
  any test [] = false
  any test (x ∷ l) = test x || any test l

  -- whether every element passes the test
  abbrev pub all : (A → Bool) → List A → Bool
  all test [] = true
  all test (x ∷ l) = test x && all test l

  -- the first element that passes the test
  abbrev pub first : (A → Bool) → List A → Option A
  first test [] = none
  first test (x ∷ l) = cond (test x) (some x) (first test l)

  -- the elements that pass the test
  abbrev pub keep : (A → Bool) → List A → List A
  keep test [] = []
  keep test (x ∷ l) = cond (test x) (x ∷ keep test l) (keep test l)
