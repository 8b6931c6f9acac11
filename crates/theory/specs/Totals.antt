-- Sums of numbers, one for each number below a bound, and of lists.
use Rattle.std.specs.Prelude.{ℕ, zero, suc, ◌+◌, ◌-◌, ◌≤◌, ◌<◌, ◌≡◌, refl}
use Rattle.std.proofs.Common.{arith, zero-add, add-zero, sym, ap, ◌∙◌}
use Rattle.std.proofs.Math.Decide.{ℕ_discrete}
use mathlib.Core.List.{List, [], ◌∷◌, ◌++◌, map, flat_map, map-append, map-map}
use Rattle.rules.specs.Lists.{sum, numbers, numbers_from}
use Rattle.rules.specs.Needed.{pairs}
use Rattle.theory.specs.Count.{tick, count}

-- f 0 + f 1 + .., n of them
abbrev pub total : (ℕ → ℕ) → ℕ → ℕ
total f zero = 0
total f (suc n) = total f n + f n

-- More of them are no less,
pub total_more : (f : ℕ → ℕ) (m n : ℕ) → m ≤ n → total f m ≤ total f n
total_more f zero n le = omega arith
total_more f (suc m) zero le = absurd (omega arith)
total_more f (suc m) (suc n) le =
    elim (ℕ_discrete m n) [ yes e ↦ rw e (omega arith) | no ne ↦ omega (arith, total_more f (suc m) n (omega arith)) ]

-- and so are greater ones.
pub total_greater : (f g : ℕ → ℕ) (n : ℕ) → ((i : ℕ) → i < n → f i ≤ g i) → total f n ≤ total g n
total_greater f g zero h = omega arith
total_greater f g (suc n) h = let first = total_greater f g n (λ i less. h i (omega arith)) in let last = h n (omega arith) in omega arith

pub total_same : (f g : ℕ → ℕ) (n : ℕ) → ((i : ℕ) → i < n → f i ≡ g i) → total f n ≡ total g n
total_same f g zero h = refl
total_same f g (suc n) h = let first = total_same f g n (λ i less. h i (omega arith)) in let last = h n (omega arith) in omega arith

pub total_plus : (f g : ℕ → ℕ) (n : ℕ) → total (λ i. f i + g i) n ≡ total f n + total g n
total_plus f g zero = refl
total_plus f g (suc n) = let first = total_plus f g n in omega arith

total_zero : (n : ℕ) → total (λ i. 0) n ≡ 0
total_zero zero = refl
total_zero (suc n) = let first = total_zero n in omega arith

-- Sums of sums, the other way round.
pub total_swap : (f : ℕ → ℕ → ℕ) (m n : ℕ) → total (λ i. total (f i) n) m ≡ total (λ j. total (λ i. f i j) m) n
total_swap f zero n = sym (total_zero n)
total_swap f (suc m) n = let first = total_swap f m n in let more = total_plus (λ j. total (λ i. f i j) m) (f m) n in omega arith

-- A count is a sum of ones.
pub count-total : {P : ℕ → Type 0} (dec : (q : ℕ) → Dec (P q)) (u : ℕ) → count dec u ≡ total (λ q. tick (dec q) 0) u
count-total dec zero = refl
count-total dec (suc u) =
    let first = count-total dec u in
    elim (dec u) as (λ d. tick d (count dec u) ≡ total (λ q. tick (dec q) 0) u + tick d 0) [ yes p ↦ omega arith | no np ↦ omega arith ]

pub sum_append : (l r : List ℕ) → sum (l ++ r) ≡ sum l + sum r
sum_append [] r = omega arith
sum_append (x ∷ l) r = let rest = sum_append l r in omega arith

-- The sum over the numbers from i on, and one number more at their end.
numbers_last : (f : ℕ → ℕ) (i n : ℕ) → sum (map f (numbers_from i (suc n))) ≡ sum (map f (numbers_from i n)) + f (i + n)
numbers_last f i zero = rw (add-zero i) (omega arith)
numbers_last f i (suc n) = let rest = numbers_last f (suc i) n in let e : i + suc n ≡ suc i + n = omega arith in rw e (omega arith)

numbers-total : (f : ℕ → ℕ) (n : ℕ) → sum (map f (numbers n)) ≡ total f n
numbers-total f zero = refl
numbers-total f (suc n) = let first = numbers-total f n in rw (numbers_last f 0 n, zero-add) (omega arith)

sum_flat_map : {A : Type 0} (f : A → ℕ) (g : ℕ → List A) (l : List ℕ) → sum (map f (flat_map g l)) ≡ sum (map (λ p. sum (map f (g p))) l)
unfolding flat_map
sum_flat_map f g [] = refl
sum_flat_map f g (x ∷ l) = rw (map-append f (g x) (flat_map g l), sum_append) (let rest = sum_flat_map f g l in omega arith)

-- The sum over the pairs of numbers below n, by the second and then by the first.
pub pairs-total : (f : ℕ × ℕ → ℕ) (n : ℕ) → sum (map f (pairs n)) ≡ total (λ q. total (λ p. f (p, q)) q) n
unfolding pairs
pairs-total f n = sum_flat_map f _ (numbers n) ∙ numbers-total _ n ∙ total_same _ (λ p. row p n) n (λ p h. ap sum (map-map f (λ q. (p, q)) (numbers_from (suc p) (n - suc p)))) ∙ by_rows n
  where
    row : ℕ → ℕ → ℕ
    row p n = sum (map (λ q. f (p, q)) (numbers_from (suc p) (n - suc p)))

    row_last : (p n : ℕ) → p < n → row p (suc n) ≡ row p n + f (p, n)
    row_last p n less =
        let e : suc n - suc p ≡ suc (n - suc p) = omega arith in
        let e' : suc p + (n - suc p) ≡ n = omega arith in
        rw e (rw e' at (numbers_last (λ q. f (p, q)) (suc p) (n - suc p)))

    row_end : (n : ℕ) → row n (suc n) ≡ 0
    row_end n = let e : suc n - suc n ≡ 0 = omega arith in rw e

    by_rows : (n : ℕ) → total (λ p. row p n) n ≡ total (λ q. total (λ p. f (p, q)) q) n
    by_rows zero = refl
    by_rows (suc n) =
        let rest = by_rows n in
        let more = total_same (λ p. row p (suc n)) (λ p. row p n + f (p, n)) n (λ p h. row_last p n h) in
        let both = total_plus (λ p. row p n) (λ p. f (p, n)) n in
        let last = row_end n in
        omega arith
