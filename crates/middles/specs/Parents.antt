-- A middle of one input or more grows from one that comes before it: by length, then by inputs, the middles that grow from one stand
-- together, in the order of those that they grow from.
use Prim.Native.Nat.{ℕ, zero, suc, ◌+◌, ◌-◌, ◌*◌, ◌/◌, ◌%◌, ◌^◌, ◌≤◌, ◌<◌}
use Rattle.std.specs.Prelude.{◌≡◌}
use Rattle.std.proofs.Math.Path.{refl, ap}
use Rattle.std.proofs.Common.{sym, ◌∙◌, mod-lt, div-lt_iff_lt-mul, div-le_self, suc-mul, zero-mul, zero-add, length-append, get_or-append-add}
use mathlib.Core.List.{List, [], ◌∷◌, ◌++◌, map, flat_map, append_assoc, append-nil}
use Rattle.std.proofs.Math.Nat.{pow-le-pow_right, div-add-mod', mul-zero}
use native.Mathlib.Omega.{arith}
use Rattle.std.proofs.Math.ListN.{length, get_or, get_or-append}
use Rattle.std.proofs.lemmas.List.{length-map}
use Rattle.rules.specs.Lists.{numbers, numbers_from}
use Rattle.rules.specs.Words.{Word, words_of, shortlex}
use Rattle.middles.specs.Places.{get_map, fifteen}

-- a word with one input more at its end, of each kind
abbrev longer : ℕ → Word → List Word
longer k w = map (λ a. w ++ (a ∷ [])) (numbers k)

unfoldable children : ℕ → List Word → List Word
children k ws = flat_map (longer k) ws

children_append : (k : ℕ) (v w : List Word) → children k (v ++ w) ≡ children k v ++ children k w
unfolding children flat_map
children_append k [] w = refl
children_append k (u ∷ v) w = rw (children_append k v w, append_assoc)

map_append : {A B : Type 0} (f : A → B) (v w : List A) → map f (v ++ w) ≡ map f v ++ map f w
map_append f [] w = refl
map_append f (a ∷ v) w = rw (map_append f v w)

-- an input before all of them
longer_before : (i : ℕ) (w : Word) (l : List ℕ) → map (λ v. i ∷ v) (map (λ a. w ++ (a ∷ [])) l) ≡ map (λ a. (i ∷ w) ++ (a ∷ [])) l
longer_before i w [] = refl
longer_before i w (a ∷ l) = rw (longer_before i w l)

children_before : (k i : ℕ) (ws : List Word) → map (λ v. i ∷ v) (children k ws) ≡ children k (map (λ v. i ∷ v) ws)
unfolding children flat_map
children_before k i [] = refl
children_before k i (w ∷ ws) = rw (map_append (λ v. i ∷ v) (longer k w) (flat_map (longer k) ws), longer_before i w (numbers k), children_before k i ws)

children_all : (k : ℕ) (ws : List Word) (l : List ℕ) → flat_map (λ i. map (λ v. i ∷ v) (children k ws)) l ≡ children k (flat_map (λ i. map (λ v. i ∷ v) ws) l)
unfolding flat_map
children_all k ws [] = unfold children in refl
children_all k ws (i ∷ l) = rw (children_append k (map (λ v. i ∷ v) ws) (flat_map (λ i. map (λ v. i ∷ v) ws) l), ← children_before k i ws, children_all k ws l)

ones : (l : List ℕ) → flat_map (λ i. map (λ v. i ∷ v) ([] ∷ [])) l ≡ map (λ a. a ∷ []) l
unfolding flat_map
ones [] = refl
ones (i ∷ l) = rw (ones l)

-- the words of one input more
words_grow : (k n : ℕ) → words_of k (suc n) ≡ children k (words_of k n)
unfolding words_of
words_grow k zero = ones (numbers k) ∙ sym (unfold children flat_map in append-nil (longer k []))
words_grow k (suc n) = ap (λ (ws : List Word). flat_map (λ i. map (λ v. i ∷ v) ws) (numbers k)) (words_grow k n) ∙ children_all k (words_of k n) (numbers k)

middles_grow : (k b : ℕ) → shortlex k (suc b) ≡ [] ∷ children k (shortlex k b)
unfolding shortlex
middles_grow k zero = rw (words_grow k zero) (unfold words_of in refl)
middles_grow k (suc b) = rw (words_grow k (suc b)) (ap (λ (ws : List Word). ws ++ children k (words_of k (suc b))) (middles_grow k b) ∙ ap (λ (ws : List Word). [] ∷ ws) (sym (children_append k (shortlex k b) (words_of k (suc b)))))

numbers_length : (i c : ℕ) → length (numbers_from i c) ≡ c
numbers_length i zero = refl
numbers_length i (suc c) = ap suc (numbers_length (suc i) c)

numbers_get : (i c j : ℕ) → j < c → get_or (numbers_from i c) j 0 ≡ i + j
numbers_get i zero j h = absurd (omega arith)
numbers_get i (suc c) zero h = omega arith
numbers_get i (suc c) (suc j) h = numbers_get (suc i) c j (omega arith) ∙ omega arith

longer-length : (k : ℕ) (w : Word) → length (longer k w) ≡ k
longer-length k w = rw length-map (numbers_length 0 k)

children-length : (k : ℕ) (ws : List Word) → length (children k ws) ≡ length ws * k
unfolding children flat_map
children-length k [] = rw zero-mul
children-length k (w ∷ ws) = rw (length-append, longer-length k w, children-length k ws, suc-mul) (omega arith)

children_get : (k : ℕ) (ws : List Word) (j i : ℕ) → j < length ws → i < k → get_or (children k ws) (j * k + i) [] ≡ get_or ws j [] ++ (i ∷ [])
unfolding children flat_map
children_get k [] j i hj hi = absurd (omega arith)
children_get k (w ∷ ws) zero i hj hi =
    let inside : i < length (longer k w) = omega (arith, longer-length k w) in
    let number : i < length (numbers k) = omega (arith, numbers_length 0 k) in
    rw (zero-mul, zero-add) (get_or-append (longer k w) (flat_map (longer k) ws) [] i inside ∙ get_map (λ a. w ++ (a ∷ [])) (numbers k) i 0 [] number ∙ ap (λ (a : ℕ). w ++ (a ∷ [])) (numbers_get 0 k i hi ∙ zero-add i))
children_get k (w ∷ ws) (suc j) i hj hi =
    let e : suc j * k + i ≡ length (longer k w) + (j * k + i) = omega (arith, longer-length k w, suc-mul j k) in
    rw (e, get_or-append-add) (children_get k ws j i (omega arith) hi)

-- longer middles change no place of the others
same_place : (k b z : ℕ) → z < length (shortlex k b) → get_or (shortlex k (suc b)) z [] ≡ get_or (shortlex k b) z []
unfolding shortlex
same_place k b z less = get_or-append (shortlex k b) (words_of k (suc b)) [] z less

-- The middle number y grows from the middle number (y - 1) / k, by the input (y - 1) % k.
module _ (k y : ℕ) (more : y ≡ 0 → ⊥) where
  some_row : (b : ℕ) → y < length (shortlex k (suc b)) → y - 1 < length (shortlex k b) * k
  some_row b less = omega (arith, ap (λ (ws : List Word). length ws) (middles_grow k b), children-length k (shortlex k b))

  pub some_inputs : (b : ℕ) → y < length (shortlex k b) → 0 < k
  some_inputs zero less = let one : y < 1 = unfold shortlex words_of in less in absurd (more (omega arith))
  some_inputs (suc b) less = pos k (some_row b less)
    where
      pos : (k : ℕ) → y - 1 < length (shortlex k b) * k → 0 < k
      pos zero h = let none : y - 1 < 0 = rw mul-zero at h in absurd (omega arith)
      pos (suc k) h = omega arith

  pub parent_place : (b : ℕ) → y < length (shortlex k b) → (0 < b) × ((y - 1) / k < length (shortlex k (b - 1)))
  parent_place zero less = let one : y < 1 = unfold shortlex words_of in less in absurd (more (omega arith))
  parent_place (suc b) less =
      let one_less : suc b - 1 ≡ b = omega arith in
      (omega arith, rw one_less ((div-lt_iff_lt-mul (some_inputs (suc b) less)).1 (some_row b less)))

  pub grows_from : (b : ℕ) → y < length (shortlex k b) → get_or (shortlex k b) y [] ≡ get_or (shortlex k b) ((y - 1) / k) [] ++ ((y - 1) % k ∷ [])
  grows_from zero less = let one : y < 1 = unfold shortlex words_of in less in absurd (more (omega arith))
  grows_from (suc b) less =
      let pos = some_inputs (suc b) less in
      let up : (y - 1) / k < length (shortlex k b) = (div-lt_iff_lt-mul pos).1 (some_row b less) in
      let at : y ≡ suc ((y - 1) / k * k + (y - 1) % k) = omega (arith, div-add-mod' (y - 1) k) in
      ap (λ (ws : List Word). get_or ws y []) (middles_grow k b)
      ∙ ap (λ (z : ℕ). get_or ([] ∷ children k (shortlex k b)) z []) at
      ∙ children_get k (shortlex k b) ((y - 1) / k) ((y - 1) % k) up (mod-lt (y - 1) pos)
      ∙ ap (λ (w : Word). w ++ ((y - 1) % k ∷ [])) (sym (same_place k b ((y - 1) / k) up))

  pub parent_before : (y - 1) / k < y
  parent_before = omega (arith, div-le_self (y - 1) k)

-- Of at most 16 inputs, so many have others that grow from them.
pub parents_most : (k b : ℕ) → k ≤ 16 → b ≤ 4 → length (shortlex k b) ≤ 69905
parents_most k b hk hb =
    let longest : 16 ^ suc b ≤ 16 ^ 5 = let most : suc b ≤ 5 = omega arith in pow-le-pow_right (omega arith) most in
    omega (arith, fifteen k b hk)
