-- Document 02, L2: the inputs that a cube is opened into, and the number of output bits. The leftmost bit is the highest.
use Rattle.std.specs.Prelude.{ℕ, zero, suc, ◌+◌, ◌-◌, ◌*◌, ◌/◌, ◌%◌, ◌^◌, ◌≤◌, ◌<◌, ◌≡◌, refl, ◌↔◌, ◌⊎◌, Bool, true, false, cond, ◌&&◌, ◌||◌, ltb, eqb, length, get_or}
use Rattle.std.proofs.Common.{arith, zero-add, zero-mul, one-mul, suc-mul, mul-add, mul-le-mul_right, pow-suc, sym, ap, ◌∙◌, inl, inr, lt-ltb, le-ltb, ltb-true, ltb-false, eqb-true, eq-eqb}
use Rattle.std.proofs.Math.Decide.{ℕ_discrete}
use Rattle.std.proofs.Math.Nat.{one-le-pow, pow-zero, two-pow-succ, div-eq_of_lt, div-eq_of_lt-le, add-mul-div_left}
use mathlib.Core.List.Memᴰ
use mathlib.Core.List.{[], ◌∷◌, map, flat_map}
use Rattle.std.proofs.lemmas.Bool.{false≢true}
use Rattle.rules.specs.Lists.{◌∈◌}
use Rattle.rules.specs.Kiss2.{Field, is_bit, is_cube, is_output, bits_of, opened, output_value}
use Rattle.theory.specs.Lists.{outcome, clash, all_true, all_of, get_or_in, in_flat_map, of_flat_map, Rising, map_rising, flat_map_rising}
use Rattle.theory.specs.Words.{both}

-- the bit of i that counts 2 ^ p
abbrev pub bit : ℕ → ℕ → ℕ
bit p i = i / 2 ^ p % 2

-- each byte of the cube is a dash, or the bit of i at that place
abbrev pub Bits : Field → ℕ → Type 0
Bits cube i = (j : ℕ) → j < length cube → (get_or cube j 0 ≡ 45) ⊎ (get_or cube j 0 ≡ 48 + bit (length cube - suc j) i)

-- The cube has the input i: i has no more bits than the cube has bytes, and they agree with them.
abbrev pub Has : Field → ℕ → Type 0
Has cube i = (i < 2 ^ length cube) × Bits cube i

-- the same bit by bit, from the leftmost on
abbrev pub has : Field → ℕ → Bool
has [] i = eqb i 0
has (b ∷ cube) i =
    cond (ltb i (2 ^ length cube)) ((eqb b 45 || eqb b 48) && has cube i) ((eqb b 45 || eqb b 49) && has cube (i - 2 ^ length cube))

-- a byte of a cube is a bit or a dash
cube_byte : (P : ℕ → Type 0) → P 48 → P 49 → P 45 → (b : ℕ) → (is_bit b || eqb b 45) ≡ true → P b
cube_byte P zero' one dash b e =
    elim (outcome (eqb b 48)) [
      | inl is ↦ rw (eqb-true b 48 is) zero'
      | inr not_zero ↦
          elim (outcome (eqb b 49)) [
            | inl is ↦ rw (eqb-true b 49 is) one
            | inr not_one ↦ rw (eqb-true b 45 (rw (not_zero, not_one) at e)) dash
          ]
    ]

bit_small : (b : ℕ) → (is_bit b || eqb b 45) ≡ true → (x : ℕ) → x ∈ bits_of b → x < 2
bit_small =
    cube_byte (λ b. (x : ℕ) → x ∈ bits_of b → x < 2) (λ x m. omega (arith, Memᴰ.eq_of_singleton m)) (λ x m. omega (arith, Memᴰ.eq_of_singleton m))
    (λ x m. elim (Memᴰ.cases_cons m) [ inl e ↦ omega arith | inr n ↦ omega (arith, Memᴰ.eq_of_singleton n) ])

low_bit : (b : ℕ) → (is_bit b || eqb b 45) ≡ true → ((eqb b 45 || eqb b 48) ≡ true) ↔ (0 ∈ bits_of b)
low_bit =
    cube_byte (λ b. ((eqb b 45 || eqb b 48) ≡ true) ↔ (0 ∈ bits_of b)) (λ e. Memᴰ.head refl, λ m. refl)
    (λ e. absurd (false≢true e), λ m. absurd (omega (arith, Memᴰ.eq_of_singleton m))) (λ e. Memᴰ.head refl, λ m. refl)

high_bit : (b : ℕ) → (is_bit b || eqb b 45) ≡ true → ((eqb b 45 || eqb b 49) ≡ true) ↔ (1 ∈ bits_of b)
high_bit =
    cube_byte (λ b. ((eqb b 45 || eqb b 49) ≡ true) ↔ (1 ∈ bits_of b)) (λ e. absurd (false≢true e), λ m. absurd (omega (arith, Memᴰ.eq_of_singleton m)))
    (λ e. Memᴰ.head refl, λ m. refl) (λ e. Memᴰ.tail (Memᴰ.head refl), λ m. refl)

-- an input of a cube with one byte more in front: a bit of that byte, and an input of the rest
opened_in : (b : ℕ) (cube : Field) (x j : ℕ) → x ∈ bits_of b → j ∈ opened cube → x * 2 ^ length cube + j ∈ opened (b ∷ cube)
unfolding opened
opened_in b cube x j in_x in_j = in_flat_map (λ bit. map (λ i. bit * 2 ^ length cube + i) (opened cube)) in_x (Memᴰ.map (λ i. x * 2 ^ length cube + i) in_j)

opened_of : (b : ℕ) (cube : Field) (i : ℕ) → i ∈ opened (b ∷ cube) → (x j : ℕ) × (x ∈ bits_of b) × (j ∈ opened cube) × (x * 2 ^ length cube + j ≡ i)
unfolding opened
opened_of b cube i m =
    let (x, in_x, row) = of_flat_map (λ bit. map (λ i. bit * 2 ^ length cube + i) (opened cube)) (bits_of b) m in
    let (j, in_j, is) = Memᴰ.of_map (λ i. x * 2 ^ length cube + i) (opened cube) row in
    (x, j, in_x, in_j, is)

-- The inputs of a cube of n bits are below 2 ^ n,
pub opened_small : (cube : Field) → is_cube cube ≡ true → (i : ℕ) → i ∈ opened cube → i < 2 ^ length cube
unfolding opened
opened_small [] e i m = rw (Memᴰ.eq_of_singleton m, pow-zero 2) (omega arith)
opened_small (b ∷ cube) e i m =
    let (here, rest) = both {a = is_bit b || eqb b 45} e in
    let (x, j, in_x, in_j, is) = opened_of b cube i m in
    let less = opened_small cube rest j in_j in
    let row : suc x * 2 ^ length cube ≤ 2 * 2 ^ length cube = mul-le-mul_right (2 ^ length cube) (bit_small b here x in_x) in
    let more = suc-mul x (2 ^ length cube) in
    rw (two-pow-succ (length cube)) (omega arith)

-- they rise, so that none is there twice,
pub opened_rising : (cube : Field) → is_cube cube ≡ true → Rising ◌<◌ (opened cube)
unfolding opened
opened_rising [] e = (λ y m. absurd (Memᴰ.not-nil m), tt)
opened_rising (b ∷ cube) e =
    let (here, rest) = both {a = is_bit b || eqb b 45} e in
    let h = 2 ^ length cube in
    flat_map_rising ◌<◌ ◌<◌ (λ bit. map (λ i. bit * h + i) (opened cube))
    (λ x. map_rising ◌<◌ ◌<◌ (λ i. x * h + i) (λ i j less. omega arith) (opened cube) (opened_rising cube rest))
    (λ x y less a c in_a in_c.
    let (i, in_i, is) = Memᴰ.of_map (λ i. x * h + i) (opened cube) in_a in
    let (j, in_j, is') = Memᴰ.of_map (λ i. y * h + i) (opened cube) in_c in
    let row : suc x * h ≤ y * h = mul-le-mul_right h less in
    let more = suc-mul x h in
    omega (arith, opened_small cube rest i in_i))
    (bits_of b) (cube_byte (λ b. Rising ◌<◌ (bits_of b)) lone lone two b here)
  where
    lone : {x : ℕ} → Rising ◌<◌ (x ∷ [])
    lone = (λ y m. absurd (Memᴰ.not-nil m), tt)

    two : Rising ◌<◌ (0 ∷ 1 ∷ [])
    two = (λ y m. rw (Memᴰ.eq_of_singleton m) (omega arith), lone)

-- and they are those that `has` finds bit by bit,
pub has-opened : (cube : Field) → is_cube cube ≡ true → (i : ℕ) → (has cube i ≡ true) ↔ (i ∈ opened cube)
unfolding opened
has-opened [] e i = (λ h. Memᴰ.head (eqb-true i 0 h), λ m. eq-eqb i 0 (Memᴰ.eq_of_singleton m))
has-opened (b ∷ cube) e i =
    let (here, rest) = both {a = is_bit b || eqb b 45} e in
    let high = 2 ^ length cube in (
      λ h.
          elim (outcome (ltb i high)) [
            | inl less ↦
                let (fits, more) = both {a = eqb b 45 || eqb b 48} (rw less at h) in
                let is : 0 * high + i ≡ i = rw (zero-mul high) (zero-add i) in
                rw is at (opened_in b cube 0 i ((low_bit b here).0 fits) ((has-opened cube rest i).0 more))
            | inr not_less ↦
                let (fits, more) = both {a = eqb b 45 || eqb b 49} (rw not_less at h) in
                let is : 1 * high + (i - high) ≡ i = rw (one-mul high) (omega (arith, ltb-false i high not_less)) in
                rw is at (opened_in b cube 1 (i - high) ((high_bit b here).0 fits) ((has-opened cube rest (i - high)).0 more))
          ],
      λ m.
          let (x, j, in_x, in_j, is) = opened_of b cube i m in
          let less = opened_small cube rest j in_j in
          back here x j (bit_small b here x in_x) in_x ((has-opened cube rest j).1 in_j) is less,
    )
  where
    back : (is_bit b || eqb b 45) ≡ true → (x j : ℕ) → x < 2 → x ∈ bits_of b → has cube j ≡ true → x * 2 ^ length cube + j ≡ i → j < 2 ^ length cube
        → has (b ∷ cube) i ≡ true
    back here zero j two in_x more is less =
        let same : j ≡ i = omega (arith, zero-mul (2 ^ length cube)) in
        rw (lt-ltb i (2 ^ length cube) (omega arith), (low_bit b here).1 in_x) (rw same at more)
    back here (suc zero) j two in_x more is less =
        let sum : 2 ^ length cube + j ≡ i = omega (arith, one-mul (2 ^ length cube)) in
        let same : i - 2 ^ length cube ≡ j = omega arith in
        rw (le-ltb i (2 ^ length cube) (omega arith), (high_bit b here).1 in_x, same) more
    back here (suc (suc x)) j two in_x more is less = absurd (omega arith)

-- A power of two is an even multiple of each lower one,
even_multiple : (p n : ℕ) → p < n → (z : ℕ) × (2 ^ n ≡ 2 ^ p * (2 * z))
even_multiple p zero less = absurd (omega arith)
even_multiple p (suc n) less =
    elim (ℕ_discrete p n) [
      | yes e ↦ (1, rw (pow-suc 2 n, e))
      | no ne ↦
          let (z, is) = even_multiple p n (omega arith) in
          let twice : 2 * (z + z) ≡ 2 * z + 2 * z = omega arith in
          (z + z, rw (two-pow-succ n, is, twice, mul-add (2 ^ p) (2 * z) (2 * z)))
    ]

-- so a higher power does not change a bit.
bit_alike : (p n i : ℕ) → p < n → bit p (i + 2 ^ n) ≡ bit p i
bit_alike p n i less =
    let (z, is) = even_multiple p n less in
    let div : (i + 2 ^ p * (2 * z)) / 2 ^ p ≡ i / 2 ^ p + 2 * z = add-mul-div_left i (2 * z) (one-le-pow p 2 (omega arith)) in
    rw (is, div) (omega arith)

module _ (b : ℕ) (cube : Field) (i rest : ℕ) (alike : (p : ℕ) → p < length cube → bit p rest ≡ bit p i) where
  bits_cons : (b ≡ 45) ⊎ (b ≡ 48 + bit (length cube) i) → Bits cube rest → Bits (b ∷ cube) i
  bits_cons top bits zero less = let e : suc (length cube) - 1 ≡ length cube = omega arith in rw e top
  bits_cons top bits (suc j) less =
      let e : suc (length cube) - suc (suc j) ≡ length cube - suc j = omega arith in
      rw (e, ← (alike (length cube - suc j) (omega arith))) (bits j (omega arith))

  bits_front : Bits (b ∷ cube) i → (b ≡ 45) ⊎ (b ≡ 48 + bit (length cube) i)
  bits_front bits = let e : suc (length cube) - 1 ≡ length cube = omega arith in rw e at (bits 0 (omega arith))

  bits_rest : Bits (b ∷ cube) i → Bits cube rest
  bits_rest bits j less =
      let e : suc (length cube) - suc (suc j) ≡ length cube - suc j = omega arith in
      rw (alike (length cube - suc j) (omega arith)) (rw e at (bits (suc j) (omega arith)))

byte_is : (b x : ℕ) → ((eqb b 45 || eqb b x) ≡ true) ↔ ((b ≡ 45) ⊎ (b ≡ x))
byte_is b x = (
  λ e. elim (outcome (eqb b 45)) [ inl dash ↦ inl (eqb-true b 45 dash) | inr other ↦ inr (eqb-true b x (rw other at e)) ],
  λ s. elim s [ inl dash ↦ rw (eq-eqb b 45 dash) | inr is ↦ elim (outcome (eqb b 45)) [ inl dash ↦ rw dash | inr other ↦ rw (other, eq-eqb b x is) ] ],
)

-- the highest bit of a number of one bit more, and the others
top_low : (n i : ℕ) → i < 2 ^ n → bit n i ≡ 0
top_low n i less = rw (div-eq_of_lt less)

top_high : (n i : ℕ) → 2 ^ n ≤ i → i < 2 ^ n + 2 ^ n → bit n i ≡ 1
top_high n i le less =
    let low : 1 * 2 ^ n ≤ i = rw (one-mul (2 ^ n)) le in
    let high : i < (1 + 1) * 2 ^ n = rw (suc-mul 1 (2 ^ n), one-mul (2 ^ n)) less in
    rw (div-eq_of_lt-le (2 ^ n) low high)

bits_below : (n i : ℕ) → 2 ^ n ≤ i → (p : ℕ) → p < n → bit p (i - 2 ^ n) ≡ bit p i
bits_below n i le p less = let is : (i - 2 ^ n) + 2 ^ n ≡ i = omega arith in sym (bit_alike p n (i - 2 ^ n) less) ∙ ap (bit p) is

-- which are those whose bits agree with the cube.
pub has_is : (cube : Field) (i : ℕ) → (has cube i ≡ true) ↔ Has cube i
has_is [] i = (
  λ h. (rw (eqb-true i 0 h, pow-zero 2) (omega arith), λ j less. absurd (omega arith)),
  λ (small, bits). eq-eqb i 0 (omega (arith, pow-zero 2)),
)
has_is (b ∷ cube) i =
    let n = length cube in
    let two = two-pow-succ n in (
      λ h.
          elim (outcome (ltb i (2 ^ n))) [
            | inl less ↦
                let (fits, more) = both {a = eqb b 45 || eqb b 48} (rw less at h) in
                let (small, bits) = (has_is cube i).0 more in
                (omega arith, bits_cons b cube i i (λ p lower. refl) (rw (top_low n i small) ((byte_is b 48).0 fits)) bits)
            | inr not_less ↦
                let le = ltb-false i (2 ^ n) not_less in
                let (fits, more) = both {a = eqb b 45 || eqb b 49} (rw not_less at h) in
                let (small, bits) = (has_is cube (i - 2 ^ n)).0 more in
                (omega arith, bits_cons b cube i (i - 2 ^ n) (bits_below n i le) (rw (top_high n i le (omega arith)) ((byte_is b 49).0 fits)) bits)
          ],
      λ (small, bits).
          elim (outcome (ltb i (2 ^ n))) [
            | inl below ↦
                let less = ltb-true i (2 ^ n) below in
                let front = rw (top_low n i less) at (bits_front b cube i i (λ p lower. refl) bits) in
                rw (below, (byte_is b 48).1 front) ((has_is cube i).1 (less, bits_rest b cube i i (λ p lower. refl) bits))
            | inr not_less ↦
                let le = ltb-false i (2 ^ n) not_less in
                let front = rw (top_high n i le (omega arith)) at (bits_front b cube i (i - 2 ^ n) (bits_below n i le) bits) in
                rw (not_less, (byte_is b 49).1 front) ((has_is cube (i - 2 ^ n)).1 (omega arith, bits_rest b cube i (i - 2 ^ n) (bits_below n i le) bits))
          ],
    )

-- So a cube is opened into the inputs whose bits agree with it.
pub opened_exactly : (cube : Field) → is_cube cube ≡ true → (i : ℕ) → (i ∈ opened cube) ↔ Has cube i
opened_exactly cube e i = (λ m. (has_is cube i).0 ((has-opened cube e i).1 m), λ h. (has-opened cube e i).0 ((has_is cube i).1 h))

-- An output of n bits is below 2 ^ n.
pub output_small : (bits : Field) → is_output bits ≡ true → output_value bits < 2 ^ length bits
unfolding output_value
output_small [] e = rw (pow-zero 2) (omega arith)
output_small (b ∷ bits) e =
    let (here, rest) = both {a = is_bit b} e in
    let less = output_small bits rest in
    let two = two-pow-succ (length bits) in
    elim (outcome (eqb b 48)) [
      | inl is ↦ rw (eqb-true b 48 is) (omega (arith, zero-mul (2 ^ length bits)))
      | inr other ↦ rw (eqb-true b 49 (rw other at here)) (omega (arith, one-mul (2 ^ length bits)))
    ]

-- It has no dashes, so that it is opened into its number alone: each bit of the number is the output's at its place.
output_opened : (bits : Field) → is_output bits ≡ true → opened bits ≡ output_value bits ∷ []
unfolding opened output_value flat_map
output_opened [] e = refl
output_opened (b ∷ bits) e =
    let (here, rest) = both {a = is_bit b} e in
    let no_dash : eqb b 45 ≡ false =
    elim (outcome (eqb b 48)) [ inl is ↦ rw (eqb-true b 48 is) | inr other ↦ rw (eqb-true b 49 (rw other at here)) ]
    in
    rw (no_dash, output_opened bits rest)

pub output_bits : (bits : Field) → is_output bits ≡ true → (j : ℕ) → j < length bits → get_or bits j 0 ≡ 48 + bit (length bits - suc j) (output_value bits)
output_bits bits e j less =
    let has_it : output_value bits ∈ opened bits = rw (output_opened bits e) (Memᴰ.head refl) in
    elim (((opened_exactly bits (no_dashes bits e) (output_value bits)).0 has_it).1 j less) [
      | inl dash ↦ clash (all_true is_bit e (get_or_in bits j 0 less)) (rw dash)
      | inr is ↦ is
    ]
  where
    no_dashes : (bits : Field) → is_output bits ≡ true → is_cube bits ≡ true
    no_dashes bits e = all_of (λ b. is_bit b || eqb b 45) bits (λ b m. rw (all_true is_bit e m))
