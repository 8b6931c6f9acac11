-- Laws of counts, numbers and sections that are written one after the other.
use Prim.Native.Nat.{ℕ, suc, ◌+◌, ◌/◌, ◌%◌, ◌≤◌}
use native.Mathlib.Omega.{arith}
use mathlib.Core.Path.{◌≡◌, refl, sym, ap, ◌∙◌}
use mathlib.Core.List.{List, [], ◌∷◌, ◌++◌, flat_map}
use lib.ListN.{length, set, take, length-append}
use lib.Seq.{paste, sets-eq, take-length}
use Rattle.rules.specs.Lists.{numbers}
use Rattle.rules.specs.Words.{Word}
use Rattle.rules.specs.Files.{UnitData, count_bytes, word_bytes, words_bytes}
use Rattle.rules.specs.Find.{found_cover}
use Rattle.theory.specs.Lists.{map-length, numbers_length}
use Rattle.theory.specs.Wrote.{Wrote, wrote_then, wrote_size}
use Rattle.finder_access.specs.Reached.{CoverFits}
use Rattle.finder.specs.Drafts.{CoverRoom}

-- a count
pub count_long : (c : ℕ) → length (count_bytes c) ≡ 2
unfolding count_bytes
count_long c = refl

pub count_written : (out : List ℕ) (at c : ℕ) → Wrote out at (count_bytes c) (set (set out at (c % 256)) (at + 1) (c / 256)) (at + 2)
unfolding count_bytes
count_written out at c = let next : at + 1 ≡ suc at = omega arith in record { place = omega arith; same = rw next }

-- the three numbers behind theirs
module _ {out left : List ℕ} {p : ℕ} (w : Wrote out 0 (count_bytes 3) left p) where
  pub numbers_at : 5 ≤ length out → (p ≡ 2) × (5 ≤ length left)
  numbers_at room = (omega (arith, w.place, count_long 3), omega (arith, wrote_size w))

  pub numbers_written : (k n m : ℕ) → Wrote out 0 (count_bytes 3 ++ (k ∷ n ∷ m ∷ [])) (set (set (set left p k) (p + 1) n) (p + 2) m) (p + 3)
  numbers_written k n m =
      let one : p + 1 ≡ suc p = omega arith in
      let two : p + 2 ≡ suc (suc p) = omega arith in
      wrote_then w (record { place = omega arith; same = rw (one, two) })

-- what was copied
pub wrote_copy : (out path left : List ℕ) (at n : ℕ) → n ≡ length path → at + n ≤ length out → left ≡ paste out at (take n path) n → Wrote out at path left (at + n)
wrote_copy out path left at n all room is =
    let whole : take n path ≡ path = rw all (take-length path) in
    let there = sets-eq path out at (omega arith) in
    record { place = omega arith; same = is ∙ rw (whole, whole, all) (sym there) }

-- words behind their count
pub words_long : (ws : List Word) → length (words_bytes ws) ≡ 2 + length (flat_map word_bytes ws)
unfolding words_bytes
words_long ws = length-append (count_bytes (length ws)) (flat_map word_bytes ws) ∙ ap (λ n. n + length (flat_map word_bytes ws)) (count_long (length ws))

module _ {out left : List ℕ} {p q : ℕ} (n : ℕ) (w : Wrote out p (count_bytes n) left q) (ws : List Word) where
  pub section_room : p + length (words_bytes ws) ≤ length out → q + length (flat_map word_bytes ws) ≤ length left
  section_room room = omega (arith, wrote_size w, w.place, count_long n, words_long ws)

  pub section_written : n ≡ length ws → {last : List ℕ} {r : ℕ} → Wrote left q (flat_map word_bytes ws) last r → Wrote out p (words_bytes ws) last r
  unfolding words_bytes
  section_written is words = let counted : Wrote out p (count_bytes (length ws)) left q = rw is at w in wrote_then counted words

-- the access words
pub cover_count : (u : UnitData) → length (found_cover u) ≡ u.states
unfolding found_cover
cover_count u = map-length _ (numbers u.states) ∙ numbers_length 0 u.states

module _ {queue places : List ℕ} {n p room : ℕ} (v : CoverRoom queue places n p room) where
  pub cover_counted : p + 2 ≤ room
  cover_counted = omega (arith, v.fits, words_long (found_cover v.held))

  pub cover_fits : {out left : List ℕ} {q : ℕ} (c : ℕ) → Wrote out p (count_bytes c) left q → length out ≡ room → CoverFits queue places n q (length left)
  cover_fits c w is =
      record {
        held = v.held;
        reaches = v.reaches;
        states = v.states;
        few = v.few;
        fits = section_room c w (found_cover v.held) (omega (arith, v.fits));
      }
