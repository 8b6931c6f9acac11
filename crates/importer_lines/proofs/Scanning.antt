-- What an iterator's `position` finds in a part of a text, as a place in the text.
use Rattle.std.proofs.Common.{◌≡◌, ℕ, ◌+◌, ◌-◌, ◌≤◌, ◌<◌, List, Bool, true, false, length, get_or, arith, sym}
use Rattle.std.proofs.lemmas.List.{get_or-take, get_or-drop, length-drop, length-take-le}
use Rattle.std.specs.List.{AllWithin, HoldsAt}
use Rattle.std.specs.Prelude.{Option, None, Some, MatchOption, unwrap_or}
use Rattle.importer_lines.specs.Parts.{part_at, FirstAt}

-- r is the index of the first byte that passes
abbrev pub Found : (ℕ → Bool) → List ℕ → Option ℕ → Type 0
Found test l r =
    MatchOption r
    (AllWithin (λ b. test b ≡ false) l 0 (length l))
    (λ i. (i < length l) × HoldsAt (λ b. test b ≡ true) l i × AllWithin (λ b. test b ≡ false) l 0 i)

module _ (test : ℕ → Bool) (s : List ℕ) (from end : ℕ) (le : from ≤ end) (fits : end ≤ length s) where
  byte_at : (j : ℕ) → from ≤ j → j < end → get_or (part_at s from end) (j - from) 0 ≡ get_or s j 0
  byte_at j behind before =
      let e : from + (j - from) ≡ j = omega arith in
      let less : j - from < end - from = omega arith in
      rw (get_or-take, get_or-drop, e)

  size : length (part_at s from end) ≡ end - from
  size = length-take-le _ _ (omega (arith, length-drop from s))

  pub first_at : (r : Option ℕ) (n : ℕ) → Found test (part_at s from end) r → n ≡ unwrap_or r (end - from) → FirstAt test s from end (from + n)
  first_at None n clear is =
      record {
        behind = omega arith;
        inside = omega arith;
        clear = λ j after before. rw (sym (byte_at j after (omega arith))) (clear (j - from) 0 (omega arith) (omega (arith, size)));
        there = λ less. absurd (omega arith);
      }
  first_at (Some i) n (inside, passes, clear) is =
      record {
        behind = omega arith;
        inside = omega (arith, size);
        clear = λ j after before. rw (sym (byte_at j after (omega (arith, size)))) (clear (j - from) 0 (omega arith) (omega arith));
        there = λ less. let e : (from + i) - from ≡ i = omega arith in rw (is, sym (byte_at (from + i) (omega arith) (omega arith)), e) (passes 0);
      }
