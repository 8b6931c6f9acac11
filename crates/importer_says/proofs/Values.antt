-- Laws of reading a number, digit by digit.
use Prim.Native.Nat.{ℕ, ◌+◌, ◌*◌, ◌-◌, ◌^◌, ◌≤◌, ◌<◌}
use native.Mathlib.Numerals.{add-one}
use native.Mathlib.Nat.{pow-suc, pow-le-pow_right}
use native.Mathlib.Omega.{arith}
use mathlib.Core.Path.{◌≡◌, refl, sym, ap, ◌∙◌}
use mathlib.Core.List.{List}
use mathlib.Core.Bool.{Bool, true, false, cond, ◌&&◌}
use Rattle.std.specs.Prelude.{None, Some}
use borrow.Author.Tests.{leb-true}
use lib.Dec.{leb}
use lib.ListN.{length, get_or, drop}
use Rattle.rules.specs.Lists.{all}
use Rattle.rules.specs.Sizes.{counts}
use Rattle.rules.specs.Kiss2.{Field, is_digit, value_from, value, is_number}
use Rattle.importer_says.specs.Fields.{number_in}
use Rattle.theory.specs.Words.{both}
use Rattle.walker.proofs.Words.{rest_more, rest_none}
use Rattle.importer_says.proofs.Bytes.{passes_at}

-- at most nine digits, of which the first i make n
pub record Reading (s : List ℕ) (n i : ℕ) : Type 0 where
  pub few : length s ≤ 9
  pub digits : all is_digit s ≡ true
  pub within : i ≤ length s
  pub small : n < 10 ^ i
  pub rest : value s ≡ value_from n (drop i s)

pub reading_start : (s : List ℕ) → length s ≤ 9 → all is_digit s ≡ true → Reading s 0 0
reading_start s few digits = record { few = few; digits = digits; within = omega arith; small = omega arith; rest = refl }

module _ (s : List ℕ) (n i : ℕ) (so_far : Reading s n i) where
  pub reading_end : length s ≤ i → n ≡ value s
  reading_end done = sym (so_far.rest ∙ rw (rest_none s i done))

  module _ (less : i < length s) where
    pub digit_at : (48 ≤ get_or s i 0) × (get_or s i 0 ≤ 57)
    digit_at =
        let sides = both {a = leb 48 (get_or s i 0)} (passes_at is_digit s i so_far.digits less) in
        (leb-true _ _ sides.0, leb-true _ _ sides.1)

    -- one digit more still fits
    pub number_small : n < 100000000
    number_small =
        let few : i ≤ 8 = omega (arith, so_far.few) in
        let most : 10 ^ i ≤ 10 ^ 8 = pow-le-pow_right {n = 10} (omega arith) few in
        omega (arith, so_far.small)

    pub reading_next : (digit : ℕ) → digit ≡ get_or s i 0 - 48 → Reading s (10 * n + digit) (i + 1)
    reading_next digit is =
        let high = digit_at.1 in
        let grown : 10 ^ (i + 1) ≡ 10 ^ i * 10 = rw (add-one i) (pow-suc 10 i) in
        record {
          few = so_far.few;
          digits = so_far.digits;
          within = omega arith;
          small = omega (arith, so_far.small);
          rest = so_far.rest ∙ rw (rest_more s i less, is);
        }

-- whether a field is a number of 1 to `most` is seen at the number that it is
module _ (most : ℕ) (field : Field) where
  pub number_counts : (n : ℕ) → Some n ≡ number_in field → (is_number most field ≡ counts most n) × (value field ≡ n)
  number_counts n = go (counts 9 (length field) && all is_digit field)
    where
      go : (t : Bool) → Some n ≡ cond t (Some (value field)) None → ((t && counts most (value field)) ≡ counts most n) × (value field ≡ n)
      go true e = let is : value field ≡ n = cc in (ap (counts most) is, is)
      go false e = cc

  pub number_none : None ≡ number_in field → is_number most field ≡ false
  number_none = go (counts 9 (length field) && all is_digit field)
    where
      go : (t : Bool) → None ≡ cond t (Some (value field)) None → (t && counts most (value field)) ≡ false
      go true e = cc
      go false e = refl

pub counts_bounds : (most n : ℕ) → counts most n ≡ true → (1 ≤ n) × (n ≤ most)
counts_bounds most n e =
    let sides = both {a = leb 1 n} e in
    (leb-true _ _ sides.0, leb-true _ _ sides.1)
