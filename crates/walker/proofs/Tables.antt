-- Laws of entries and outputs that stand in bytes.
use Prim.Native.Nat.{ℕ, zero, suc, ◌+◌, ◌*◌, ◌<◌}
use mathlib.Core.Path.{◌≡◌, refl, sym, ap, ◌∙◌}
use mathlib.Core.List.{List}
use native.Mathlib.Nat.{mul-le-mul, le_refl, suc-mul, add-zero}
use native.Mathlib.Omega.{arith}
use lib.ListN.{length, get_or}
use Rattle.rules.specs.Machines.{Complete}
use Rattle.reader.specs.Places.{output_width, entry_width, output_at, outputs_at, entries_at, machine_at, word_at, TableAt}

pub entry_inside : (n k q i : ℕ) → q < n → i < k → q * k + i < n * k
entry_inside n k q i hq hi = omega (arith, suc-mul q k, mul-le-mul hq (le_refl k))

pub entry_at : (s : List ℕ) (p c j : ℕ) → j < c → get_or (entries_at s p c) j (0, 0) ≡ (get_or s (p + entry_width * j) 0, output_at s (p + entry_width * j + 1))
unfolding entries_at
entry_at s p zero j h = absurd (omega arith)
entry_at s p (suc c) zero h = rw add-zero
entry_at s p (suc c) (suc j) h =
    let e : p + entry_width + entry_width * j ≡ p + entry_width * suc j = omega arith in
    let h' : j < c = omega arith in
    rw (← e) (entry_at s (p + entry_width) c j h')

-- the entry of a state and an input
module _ (s : List ℕ) (p k n q i : ℕ) (hq : q < n) (hi : i < k) where
  pub next_at : (machine_at s p k n).next q i ≡ get_or s (p + entry_width * (q * k + i)) 0
  next_at = ap (λ (e : ℕ × ℕ). e.0) (entry_at s p (n * k) (q * k + i) (entry_inside n k q i hq hi))

  pub output_at_lem : (machine_at s p k n).output q i ≡ output_at s (p + entry_width * (q * k + i) + 1)
  output_at_lem = ap (λ (e : ℕ × ℕ). e.1) (entry_at s p (n * k) (q * k + i) (entry_inside n k q i hq hi))

-- and where its place r was found
module _ (s : List ℕ) (p k n q i r : ℕ) (at : TableAt s p k n) (hq : q < n) (hi : i < k) (e : r ≡ p + entry_width * (q * k + i)) where
  pub next_found : (get_or s r 0 ≡ (machine_at s p k n).next q i) × (get_or s r 0 < n)
  next_found = rw e (sym (next_at s p k n q i hq hi), at.closed (q * k + i) (entry_inside n k q i hq hi))

  pub output_found : output_at s (r + 1) ≡ (machine_at s p k n).output q i
  output_found = rw e (sym (output_at_lem s p k n q i hq hi))

-- the outputs of a record
pub outputs_length : (s : List ℕ) (p c : ℕ) → length (outputs_at s p c) ≡ c
unfolding outputs_at
outputs_length s p zero = refl
outputs_length s p (suc c) = ap suc (outputs_length s (p + output_width) c)

pub outputs_get : (s : List ℕ) (p c j : ℕ) → j < c → get_or (outputs_at s p c) j 0 ≡ output_at s (p + output_width * j)
unfolding outputs_at
outputs_get s p zero j h = absurd (omega arith)
outputs_get s p (suc c) zero h = rw add-zero
outputs_get s p (suc c) (suc j) h =
    let e : p + output_width + output_width * j ≡ p + output_width * suc j = omega arith in
    let h' : j < c = omega arith in
    rw (← e) (outputs_get s (p + output_width) c j h')

pub recorded_long : (s : List ℕ) (p q n : ℕ) → n ≡ get_or s p 0 → n ≡ length (word_at s p) → length (outputs_at s q (get_or s p 0)) ≡ length (word_at s p)
recorded_long s p q n byte long = outputs_length s q (get_or s p 0) ∙ sym byte ∙ long

-- The machine that stands in a table is complete.
pub machine_complete : (s : List ℕ) (p k n : ℕ) → TableAt s p k n → Complete k (machine_at s p k n)
machine_complete s p k n at =
    record {
      start = at.start;
      closed = λ q i hq hi. rw (next_at s p k n q i hq hi) (at.closed _ (entry_inside n k q i hq hi));
    }
