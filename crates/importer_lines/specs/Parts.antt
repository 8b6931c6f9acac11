-- Parts of a text, and the first byte of one that passes a test.
use Rattle.std.specs.Prelude.{ℕ, suc, ◌+◌, ◌-◌, ◌≤◌, ◌<◌, ◌≡◌, List, [], ◌∷◌, Bool, true, false, length, take, drop, get_or}
use Rattle.std.proofs.Common.{add-one, arith, drop-cons}
use Rattle.importer_lines.specs.declared.Part.{Part}

-- the bytes from a on, up to b
abbrev pub part_at : List ℕ → ℕ → ℕ → List ℕ
part_at s a b = take (b - a) (drop a s)

abbrev pub bytes_at : List ℕ → Part → List ℕ
bytes_at s p = part_at s p.start p.end

-- a part that is in the text and has a byte
pub record FieldIn (s : List ℕ) (p : Part) : Type 0 where
  pub some_byte : p.start < p.end
  pub inside : p.end ≤ length s

-- r is the place of the first byte at or behind `from` that passes the test, or `end` where there is none
pub record FirstAt (test : ℕ → Bool) (s : List ℕ) (from end r : ℕ) : Type 0 where
  pub behind : from ≤ r
  pub inside : r ≤ end
  pub clear : (j : ℕ) → from ≤ j → j < r → test (get_or s j 0) ≡ false
  pub there : r < end → test (get_or s r 0) ≡ true

pub part_none : (s : List ℕ) (a b : ℕ) → b ≤ a → part_at s a b ≡ []
part_none s a b le = let e : b - a ≡ 0 = omega arith in rw e

pub part_more : (s : List ℕ) (a b : ℕ) → a < b → b ≤ length s → part_at s a b ≡ get_or s a 0 ∷ part_at s (a + 1) b
part_more s a b lt le =
    let e : b - a ≡ suc (b - (a + 1)) = omega arith in
    let there : a < length s = omega arith in
    rw (e, drop-cons s a 0 there, ← (add-one a))

-- from the next byte on
pub first_later : {test : ℕ → Bool} {s : List ℕ} {from end r : ℕ} → FirstAt test s from end r → from < r → FirstAt test s (from + 1) end r
first_later first less =
    record {
      behind = omega arith;
      inside = first.inside;
      clear = λ j le lt. first.clear j (omega arith) lt;
      there = first.there;
    }
