-- Laws of cubes and outputs that are read bit by bit.
use Prim.Native.Nat.{ℕ, suc, ◌+◌, ◌-◌, ◌*◌, ◌/◌, ◌%◌, ◌^◌, ◌≤◌, ◌<◌}
use native.Mathlib.Omega.{arith}
use native.Mathlib.Decide.{ℕ_discrete}
use native.Mathlib.Nat.{zero-mul, one-mul, mul-add, add-mul, one-le-pow, pow-zero, two-pow-succ, pow-le-pow_right, mod-eq_of_lt}
use mathlib.Core.Path.{◌≡◌, refl, sym, ◌∙◌}
use mathlib.Core.Logic.{◌⊎◌, inl, inr}
use mathlib.Core.List.{List}
use mathlib.Core.Bool.{Bool, true, false, ◌||◌}
use borrow.Author.Tests.{eqb-true, eq-eqb, ne_eqb}
use lib.Dec.{eqb}
use lib.ListN.{length, get_or, drop, length-drop}
use lib.Seq.{length-take-le, get_or-take, get_or-drop}
use Rattle.rules.specs.Lists.{◌∈◌, any}
use Rattle.rules.specs.Kiss2.{Field, is_bit, is_cube, is_output, opened, output_value}
use Rattle.theory.specs.Lists.{outcome, clash, any-true, any_of}
use Rattle.theory.specs.Words.{both}
use Rattle.theory.specs.Cubes.{bit, opened_exactly}
use Rattle.importer_lines.specs.Parts.{part_at, part_more, part_none}

pub weight_is : (n : ℕ) → n ≤ 4 → 1 * 2 ^ n % 256 ≡ 2 ^ n
weight_is n few =
    let most : 2 ^ n ≤ 2 ^ 4 = pow-le-pow_right {n = 2} (omega arith) few in
    rw (one-mul (2 ^ n)) (mod-eq_of_lt (omega arith))

pub weight_some : (n w : ℕ) → w ≡ 2 ^ n → 0 < w
weight_some n w is = rw is (one-le-pow n 2 (omega arith))

pub bit_is : (n i w : ℕ) → w ≡ 2 ^ n → (i / w % 2 ≡ bit n i) × (i / w % 2 < 2)
bit_is n i w is = (rw is, omega arith)

-- whether a byte of a cube stands for a bit
abbrev pub fits_bit : ℕ → ℕ → Bool
fits_bit byte b = eqb byte 45 || eqb byte (48 + b)

module _ (byte b : ℕ) where
  pub dash_fits : (r : Bool) → r ≡ true → byte ≡ 45 → r ≡ fits_bit byte b
  dash_fits r always is = always ∙ rw (eq-eqb byte 45 is)

  pub bit_fits : (byte ≡ 45 → ⊥) → eqb byte (48 + b) ≡ fits_bit byte b
  bit_fits other = rw (ne_eqb byte 45 other)

  fits_is : fits_bit byte b ≡ true → (byte ≡ 45) ⊎ (byte ≡ 48 + b)
  fits_is e =
      elim (outcome (eqb byte 45)) [ inl dash ↦ inl (eqb-true byte 45 dash) | inr other ↦ inr (eqb-true byte (48 + b) (rw other at e)) ]

  fits_not : fits_bit byte b ≡ false → (byte ≡ 45) ⊎ (byte ≡ 48 + b) → ⊥
  fits_not e (inl dash) = clash (sym (dash_fits true refl dash)) e
  fits_not e (inr is) =
      elim (outcome (eqb byte 45)) [
        | inl dash ↦ clash (sym (dash_fits true refl (eqb-true byte 45 dash))) e
        | inr other ↦ clash (eq-eqb byte (48 + b) is) (rw other at e)
      ]

in_opened : (cube : Field) (i : ℕ) → i ∈ opened cube → true ≡ any (eqb i) (opened cube)
in_opened cube i m = sym (any_of (eqb i) m (eq-eqb i i refl))

not_opened : (cube : Field) (i : ℕ) → (i ∈ opened cube → ⊥) → false ≡ any (eqb i) (opened cube)
not_opened cube i never =
    elim (outcome (any (eqb i) (opened cube))) [
      | inl has ↦ let (x, m, is) = any-true (eqb i) (opened cube) has in absurd (never (rw (eqb-true i x is) m))
      | inr none ↦ sym none
    ]

-- the bytes from `start` up to `at` fit the bits of i: the last byte of the cube has none behind it
pub record Fitting (text : List ℕ) (start end i at : ℕ) : Type 0 where
  pub low : start ≤ at
  pub high : at ≤ end
  pub fit : (m : ℕ) → start ≤ m → m < at → (get_or text m 0 ≡ 45) ⊎ (get_or text m 0 ≡ 48 + bit (end - 1 - m) i)

module _ (text : List ℕ) (start end : ℕ) (some_byte : start < end) (inside : end ≤ length text) where
  abbrev pub part : List ℕ
  part = part_at text start end

  pub part_long : length part ≡ end - start
  part_long = length-take-le (end - start) (drop start text) (omega (arith, length-drop start text))

  byte_at : (j : ℕ) → j < end - start → get_or part j 0 ≡ get_or text (start + j) 0
  byte_at j less = get_or-take (end - start) (drop start text) j 0 less ∙ get_or-drop start text j 0

  module _ (i : ℕ) where
    pub fitting_start : Fitting text start end i start
    fitting_start = record { low = omega arith; high = omega arith; fit = λ m le lt. absurd (omega arith) }

    module _ (at : ℕ) (so_far : Fitting text start end i at) (less : at < end) (b p : ℕ) (taken : b ≡ bit p i) (place : p ≡ end - 1 - at) (r : Bool)
        (asked : r ≡ fits_bit (get_or text at 0) b) where
      is_bit_lem : b ≡ bit (end - 1 - at) i
      is_bit_lem = rw (← place) taken

      pub fitting_next : r ≡ true → Fitting text start end i (at + 1)
      fitting_next is =
          record {
            low = omega (arith, so_far.low);
            high = omega arith;
            fit = λ m le lt.
                elim (ℕ_discrete m at) [
                  | yes e ↦ rw (e, ← is_bit_lem) (fits_is (get_or text at 0) b (sym asked ∙ is))
                  | no ne ↦ so_far.fit m le (omega arith)
                ];
          }

      pub fitting_stops : is_cube part ≡ true → r ≡ false → false ≡ any (eqb i) (opened part)
      fitting_stops cube is =
          not_opened part i
          (λ m.
          let j : ℕ = at - start in
          let inner : j < end - start = omega (arith, so_far.low) in
          let here : start + j ≡ at = omega (arith, so_far.low) in
          let behind : length part - suc j ≡ end - 1 - at = omega (arith, part_long, so_far.low) in
          fits_not (get_or text at 0) b (sym asked ∙ is)
          (rw (byte_at j inner, here, behind, ← is_bit_lem) at (((opened_exactly part cube i).0 m).1 j (rw part_long inner))))

    pub fitting_end : is_cube part ≡ true → i < 2 ^ (end - start) → (at : ℕ) → Fitting text start end i at → end ≤ at → true ≡ any (eqb i) (opened part)
    fitting_end cube small at so_far done =
        in_opened part i
        ((opened_exactly part cube i).1 (
          rw part_long small,
          λ j less.
              let inner : j < end - start = rw part_long at less in
              let behind : length part - suc j ≡ end - 1 - (start + j) = omega (arith, part_long) in
              rw (byte_at j inner, behind) (so_far.fit (start + j) (omega arith) (omega arith)),
        ))

    pub too_wide : is_cube part ≡ true → 2 ^ (end - start) ≤ i → false ≡ any (eqb i) (opened part)
    too_wide cube wide = not_opened part i (λ m. let small : i < 2 ^ (end - start) = rw part_long at ((opened_exactly part cube i).0 m).0 in omega arith)

-- of an output's bytes those up to `at` make the value, and the rest is to come
pub record Valued (text : List ℕ) (start end at value : ℕ) : Type 0 where
  pub low : start ≤ at
  pub high : at ≤ end
  pub inside : end ≤ length text
  pub few : end - start ≤ 8
  pub bits : is_output (part_at text at end) ≡ true
  pub small : value < 2 ^ (at - start)
  pub rest : output_value (part_at text start end) ≡ value * 2 ^ (end - at) + output_value (part_at text at end)

pub valued_start : (text : List ℕ) (start end : ℕ) → start < end → end ≤ length text → end - start ≤ 8 → is_output (part_at text start end) ≡ true
    → Valued text start end start 0
valued_start text start end some_byte inside few bits =
    let none : start - start ≡ 0 = omega arith in
    record {
      low = omega arith;
      high = omega arith;
      inside = inside;
      few = few;
      bits = bits;
      small = rw (none, pow-zero 2) (omega arith);
      rest = rw (zero-mul (2 ^ (end - start))) (omega arith);
    }

-- a byte of the part, as it stands in the text
pub byte_of : (text : List ℕ) (start end i value : ℕ) → Valued text start end (start + i) value → i < length (part_at text start end) → (start + i < end) × (get_or (part_at text start end) i 0 ≡ get_or text (start + i) 0)
byte_of text start end i value so_far less =
    let long : length (part_at text start end) ≡ end - start = length-take-le (end - start) (drop start text) (omega (arith, length-drop start text, so_far.inside)) in
    let inside : i < end - start = omega arith in
    (omega arith, rw (get_or-take, get_or-drop))

module _ (text : List ℕ) (start end at value : ℕ) (so_far : Valued text start end at value) where
  pub valued_end : end ≤ at → value ≡ output_value (part_at text start end)
  unfolding output_value
  valued_end done =
      let none : end - at ≡ 0 = omega arith in
      let nothing : output_value (part_at text at end) ≡ 0 = rw (part_none text at end done) in
      let all : value * 2 ^ (end - at) ≡ value = rw none (omega arith) in
      omega (arith, so_far.rest)

  module _ (less : at < end) where
    here_bits : (is_bit (get_or text at 0) ≡ true) × (is_output (part_at text (at + 1) end) ≡ true)
    here_bits = both {a = is_bit (get_or text at 0)} (rw (part_more text at end less so_far.inside) at so_far.bits)

    pub bit_byte : (48 ≤ get_or text at 0) × (get_or text at 0 ≤ 49)
    bit_byte =
        elim (outcome (eqb (get_or text at 0) 48)) [
          | inl is ↦ let zero_bit : get_or text at 0 ≡ 48 = eqb-true (get_or text at 0) 48 is in (omega arith, omega arith)
          | inr other ↦
              let is : get_or text at 0 ≡ 49 = eqb-true (get_or text at 0) 49 (rw other at here_bits.0) in
              (omega arith, omega arith)
        ]

    -- one bit more still fits
    pub value_small : value < 128
    value_small =
        let few : at - start ≤ 7 = omega (arith, so_far.few) in
        let most : 2 ^ (at - start) ≤ 2 ^ 7 = pow-le-pow_right {n = 2} (omega arith) few in
        omega (arith, so_far.small)

    pub valued_next : Valued text start end (at + 1) (2 * value + (get_or text at 0 - 48))
    unfolding output_value
    valued_next =
        let k : ℕ = end - (at + 1) in
        let d : ℕ = get_or text at 0 - 48 in
        let more : end - at ≡ suc k = omega arith in
        let wider : at + 1 - start ≡ suc (at - start) = omega (arith, so_far.low) in
        let long : length (part_at text (at + 1) end) ≡ k = length-take-le k (drop (at + 1) text) (omega (arith, length-drop (at + 1) text, so_far.inside)) in
        let twice = two-pow-succ (at - start) in
        let left : value * 2 ^ (end - at) ≡ value * 2 ^ k + value * 2 ^ k = rw (more, two-pow-succ k) (mul-add value (2 ^ k) (2 ^ k)) in
        let split = add-mul (value + value) d (2 ^ k) in
        let right = add-mul value value (2 ^ k) in
        let double : 2 * value + d ≡ value + value + d = omega arith in
        let next : output_value (part_at text at end) ≡ d * 2 ^ k + output_value (part_at text (at + 1) end) =
        rw (part_more text at end less so_far.inside, long) in
        record {
          low = omega (arith, so_far.low);
          high = omega arith;
          inside = so_far.inside;
          few = so_far.few;
          bits = here_bits.1;
          small = rw (wider, twice) (omega (arith, so_far.small, bit_byte.1));
          rest = rw double (omega (arith, so_far.rest));
        }

-- one byte of the part more
pub valued_more : (text : List ℕ) (start end i value : ℕ) → Valued text start end (start + i) value → i < length (part_at text start end)
    → Valued text start end (start + (i + 1)) (2 * value + (get_or (part_at text start end) i 0 - 48))
valued_more text start end i value so_far less =
    let (before, here) = byte_of text start end i value so_far less in
    let next : start + (i + 1) ≡ start + i + 1 = omega arith in
    rw (next, here) (valued_next text start end (start + i) value so_far before)

pub valued_all : (text : List ℕ) (start end i value : ℕ) → Valued text start end (start + i) value → length (part_at text start end) ≤ i → value ≡ output_value (part_at text start end)
valued_all text start end i value so_far done =
    let long : length (part_at text start end) ≡ end - start = length-take-le (end - start) (drop start text) (omega (arith, length-drop start text, so_far.inside)) in
    valued_end text start end (start + i) value so_far (omega arith)
