-- Rule 1: the lines of a text, one after the other.
use Rattle.std.specs.Prelude.{ℕ, zero, suc, ◌+◌, ◌-◌, ◌≤◌, ◌<◌, ◌≡◌, List, [], ◌∷◌, Bool, true, false, eqb, length, drop, get_or}
use Rattle.std.proofs.Common.{add-one, eq-or-lt_of_le, arith, ◌∙◌, ⊎_elim, drop_of_length-le, drop-cons}
use Rattle.rules.specs.Kiss2.{lines_of, longer}
use Rattle.importer_lines.specs.Parts.{part_at, FirstAt, part_none, part_more, first_later}

abbrev pub is_feed : ℕ → Bool
is_feed b = eqb b 10

-- r is the place of the line feed that ends the line that begins at p, or the text's length
pub record LineEnd (s : List ℕ) (p r : ℕ) : Type 0 where
  pub first : FirstAt is_feed s p (length s) r

pub lines_none : (s : List ℕ) (p : ℕ) → length s ≤ p → lines_of (drop p s) ≡ []
unfolding lines_of
lines_none s p le = rw (drop_of_length-le s le)

lines_feed : (s : List ℕ) (p : ℕ) → p < length s → is_feed (get_or s p 0) ≡ true → lines_of (drop p s) ≡ [] ∷ lines_of (drop (p + 1) s)
unfolding lines_of
lines_feed s p less feed = rw (drop-cons s p 0 less, feed, add-one p)

lines_more : (s : List ℕ) (p : ℕ) → p < length s → is_feed (get_or s p 0) ≡ false → lines_of (drop p s) ≡ longer (get_or s p 0) (lines_of (drop (p + 1) s))
unfolding lines_of
lines_more s p less other = rw (drop-cons s p 0 less, other, add-one p)

-- the line that is n bytes long
lines_from : (n : ℕ) (s : List ℕ) (p r : ℕ) → p < length s → r ≡ p + n → FirstAt is_feed s p (length s) r → lines_of (drop p s) ≡ part_at s p r ∷ lines_of (drop (r + 1) s)
lines_from zero s p r less long ends =
    let here : r ≡ p = omega arith in
    rw (here, part_none s p p (omega arith)) (lines_feed s p less (rw here at (ends.there (omega arith))))
lines_from (suc n) s p r less long ends =
    head ∙ ⊎_elim last (λ more. further (lines_from n s (p + 1) r more (omega arith) (first_later ends (omega arith)))) (eq-or-lt_of_le {n = p + 1} {m = length s} (omega arith))
  where
    head : lines_of (drop p s) ≡ longer (get_or s p 0) (lines_of (drop (p + 1) s))
    head = lines_more s p less (ends.clear p (omega arith) (omega arith))

    part : part_at s p r ≡ get_or s p 0 ∷ part_at s (p + 1) r
    part = part_more s p r (omega arith) ends.inside

    last : p + 1 ≡ length s → longer (get_or s p 0) (lines_of (drop (p + 1) s)) ≡ part_at s p r ∷ lines_of (drop (r + 1) s)
    last at_end =
        let here : r ≡ p + 1 = omega (arith, ends.inside) in
        rw (lines_none s (p + 1) (omega arith), lines_none s (r + 1) (omega arith), part, part_none s (p + 1) r (omega arith))

    further : lines_of (drop (p + 1) s) ≡ part_at s (p + 1) r ∷ lines_of (drop (r + 1) s) → longer (get_or s p 0) (lines_of (drop (p + 1) s)) ≡ part_at s p r ∷ lines_of (drop (r + 1) s)
    further others = rw (others, part)

pub lines_next : (s : List ℕ) (p r : ℕ) → p < length s → LineEnd s p r → lines_of (drop p s) ≡ part_at s p r ∷ lines_of (drop (r + 1) s)
lines_next s p r less ends = lines_from (r - p) s p r less (omega (arith, ends.first.behind)) ends.first
