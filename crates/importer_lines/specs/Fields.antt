-- Rule 2: the fields of a line, one after the other.
use Rattle.std.specs.Prelude.{ℕ, zero, suc, ◌+◌, ◌-◌, ◌≤◌, ◌<◌, ◌≡◌, List, [], ◌∷◌, Bool, true, false, not, cond, ltb, length, get_or}
use Rattle.std.proofs.Common.{eq-or-lt_of_le, arith, ◌∙◌, ⊎_elim}
use Rattle.std.proofs.lemmas.Bool.{not-false}
use Rattle.rules.specs.Kiss2.{Field, is_gap, ends_field, fields_of, longer}
use Rattle.importer_lines.specs.declared.Part.{Part}
use Rattle.importer_lines.specs.declared.Fields.{Fields}
use Rattle.importer_lines.specs.Parts.{part_at, bytes_at, FieldIn, FirstAt, part_none, part_more, first_later}

abbrev pub no_gap : ℕ → Bool
no_gap b = not (is_gap b)

abbrev pub held_of : Part → ℕ
held_of p = cond (ltb p.start p.end) 1 0

-- there is no field, or the next one is r and the others stand behind it
pub data NextField (s : List ℕ) (from end : ℕ) (r : Part) : Type 0 where
  no_field : fields_of (part_at s from end) ≡ [] → r.start ≡ end → r.end ≡ end → NextField s from end r
  a_field :
      from ≤ r.start → r.start < r.end → r.end ≤ end → fields_of (part_at s from end) ≡ bytes_at s r ∷ fields_of (part_at s r.end end) → NextField s from end r

-- the fields of the line from `from` to `end`: none to four of them, or more
pub record FieldsAt (s : List ℕ) (from end : ℕ) (r : Fields) : Type 0 where
  pub few : r.count ≤ 5
  pub some_first : 1 ≤ r.count → (rest : List Field) × (fields_of (part_at s from end) ≡ bytes_at s r.a ∷ rest)
  pub no_fields : r.count ≡ 0 → fields_of (part_at s from end) ≡ []
  pub one : r.count ≡ 1 → fields_of (part_at s from end) ≡ bytes_at s r.a ∷ []
  pub two : r.count ≡ 2 → fields_of (part_at s from end) ≡ bytes_at s r.a ∷ bytes_at s r.b ∷ []
  pub three : r.count ≡ 3 → fields_of (part_at s from end) ≡ bytes_at s r.a ∷ bytes_at s r.b ∷ bytes_at s r.c ∷ []
  pub four :
      r.count ≡ 4 → fields_of (part_at s from end) ≡ bytes_at s r.a ∷ bytes_at s r.b ∷ bytes_at s r.c ∷ bytes_at s r.d ∷ []
  pub more :
      r.count ≡ 5
      → (e : Field) × (rest : List Field) × (fields_of (part_at s from end) ≡ bytes_at s r.a ∷ bytes_at s r.b ∷ bytes_at s r.c ∷ bytes_at s r.d ∷ e ∷ rest)
  pub first : 1 ≤ r.count → FieldIn s r.a
  pub second : 2 ≤ r.count → FieldIn s r.b
  pub third : 3 ≤ r.count → FieldIn s r.c
  pub fourth : 4 ≤ r.count → FieldIn s r.d

-- a byte of a line, where the others stand behind it
module _ (s : List ℕ) (from end : ℕ) (less : from < end) (fits : end ≤ length s) where
  fields_gap : is_gap (get_or s from 0) ≡ true → fields_of (part_at s from end) ≡ fields_of (part_at s (from + 1) end)
  unfolding fields_of
  fields_gap gap = rw (part_more s from end less fits, gap)

  fields_last : is_gap (get_or s from 0) ≡ false → ends_field (part_at s (from + 1) end) ≡ true → fields_of (part_at s from end) ≡ (get_or s from 0 ∷ []) ∷ fields_of (part_at s (from + 1) end)
  unfolding fields_of
  fields_last byte ends = rw (part_more s from end less fits, byte, ends)

  fields_longer : is_gap (get_or s from 0) ≡ false → ends_field (part_at s (from + 1) end) ≡ false → fields_of (part_at s from end) ≡ longer (get_or s from 0) (fields_of (part_at s (from + 1) end))
  unfolding fields_of
  fields_longer byte goes_on = rw (part_more s from end less fits, byte, goes_on)

-- gaps before a field say nothing
skip_gaps : (n : ℕ) (s : List ℕ) (from end r : ℕ) → end ≤ length s → r ≡ from + n → FirstAt no_gap s from end r → fields_of (part_at s from end) ≡ fields_of (part_at s r end)
skip_gaps zero s from end r fits long first = let here : r ≡ from = omega arith in rw here
skip_gaps (suc n) s from end r fits long first =
    fields_gap s from end (omega (arith, first.inside)) fits (not-false _ (first.clear from (omega arith) (omega arith)))
    ∙ skip_gaps n s (from + 1) end r fits (omega arith) (first_later first (omega arith))

pub fields_behind_gaps : (s : List ℕ) (from end r : ℕ) → end ≤ length s → FirstAt no_gap s from end r → fields_of (part_at s from end) ≡ fields_of (part_at s r end)
fields_behind_gaps s from end r fits first = skip_gaps (r - from) s from end r fits (omega (arith, first.behind)) first

-- the end of the line or a gap ends a field
ends_here : (s : List ℕ) (from end : ℕ) → end ≤ length s → FirstAt is_gap s from end from → ends_field (part_at s from end) ≡ true
ends_here s from end fits first =
    ⊎_elim (λ e. rw (part_none s from end (omega arith))) (λ less. rw (part_more s from end less fits) (first.there less))
    (eq-or-lt_of_le {n = from} {m = end} first.inside)

goes_on : (s : List ℕ) (from end r : ℕ) → end ≤ length s → from < r → FirstAt is_gap s from end r → ends_field (part_at s from end) ≡ false
goes_on s from end r fits less first =
    rw (part_more s from end (omega (arith, first.inside)) fits) (first.clear from (omega arith) less)

-- a field of one byte and n more
take_field : (n : ℕ) (s : List ℕ) (from end r : ℕ) → end ≤ length s → r ≡ from + suc n → FirstAt is_gap s from end r → fields_of (part_at s from end) ≡ part_at s from r ∷ fields_of (part_at s r end)
take_field zero s from end r fits long first =
    let here : r ≡ from + 1 = omega arith in
    let inside : r ≤ end = first.inside in
    let less : from < end = omega arith in
    let byte : is_gap (get_or s from 0) ≡ false = first.clear from (omega arith) (omega arith) in
    let last : FirstAt is_gap s (from + 1) end (from + 1) = rw here at (first_later first (omega arith)) in
    rw (here, part_more s from (from + 1) (omega arith) (omega arith), part_none s (from + 1) (from + 1) (omega arith))
    (fields_last s from end less fits byte (ends_here s (from + 1) end fits last))
take_field (suc n) s from end r fits long first =
    let inside : r ≤ end = first.inside in
    let less : from < end = omega arith in
    let later : FirstAt is_gap s (from + 1) end r = first_later first (omega arith) in
    let byte : is_gap (get_or s from 0) ≡ false = first.clear from (omega arith) (omega arith) in
    fields_longer s from end less fits byte (goes_on s (from + 1) end r fits (omega arith) later)
    ∙ rw (take_field n s (from + 1) end r fits (omega arith) later, part_more s from r (omega arith) (omega arith))

pub fields_next : (s : List ℕ) (from end r : ℕ) → end ≤ length s → from < r → FirstAt is_gap s from end r → fields_of (part_at s from end) ≡ part_at s from r ∷ fields_of (part_at s r end)
fields_next s from end r fits less first = take_field (r - (from + 1)) s from end r fits (omega arith) first

pub fields_none : (s : List ℕ) (from end : ℕ) → end ≤ from → fields_of (part_at s from end) ≡ []
unfolding fields_of
fields_none s from end le = rw (part_none s from end le)
