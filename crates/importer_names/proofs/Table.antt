-- Laws of a table of names.
use Prim.Native.Nat.{ℕ, zero, suc, ◌+◌, ◌*◌, ◌-◌, ◌≤◌, ◌<◌}
use native.Mathlib.Omega.{arith}
use native.Mathlib.Decide.{ℕ_discrete}
use mathlib.Core.Path.{◌≡◌, refl, sym, ap, ◌∙◌}
use mathlib.Core.List.{List, [], ◌∷◌, ◌++◌}
use mathlib.Core.Logic.{◌≢◌, inl, inr}
use mathlib.Core.Bool.{Bool, true, false, ◌||◌, false≢true}
use lib.ListN.{length, get_or, set, take, drop, length-append, length-drop, length-set, get_or-append}
use lib.Seq.{length-take-le, get_or-take, get_or-drop, take-append-le, take-take, take-add, take_all, drop_at, get_or_at, paste, length-paste, take-paste, get_or-set_same, get_or-set_other}
use Rattle.rules.specs.Sizes.{most_states}
use Rattle.rules.specs.Words.{same, is_in}
use Rattle.rules.specs.Kiss2.{Field, place_in}
use Rattle.theory.specs.Lists.{outcome}
use Rattle.theory.specs.Words.{same_true, same_refl, same_false, differ_same}
use Rattle.importer_lines.specs.declared.Part.{Part}
use Rattle.importer_lines.specs.Parts.{bytes_at, FieldIn}
use Rattle.std.specs.Prelude.{None, Some}
use Rattle.importer_names.specs.Names.{name_at, SlotIn, SlotsIn, NamesAt, NamedAs}

pub slot_in : {names lengths : List ℕ} {n : ℕ} → SlotsIn names lengths n → (j : ℕ) → j < n → SlotIn names lengths j
slot_in v j less = record { room = v.room; table = v.table; below = omega (arith, v.few); short = v.short j less }

-- a name between its two places
pub named_is : (names lengths v : List ℕ) (j w : ℕ) (r : Bool) → w ≡ get_or lengths j 0 → r ≡ same (take (j * 16 + w - j * 16) (drop (j * 16) names)) v → r ≡ same (name_at names lengths j) v
named_is names lengths v j w r is e = let long : j * 16 + w - j * 16 ≡ get_or lengths j 0 = omega arith in rw long at e

pub part_long : (s : List ℕ) (a b : ℕ) → a < b → b ≤ length s → b - a ≡ length (take (b - a) (drop a s))
part_long s a b some inside = sym (length-take-le (b - a) (drop a s) (omega (arith, length-drop a s)))

-- a part of the text that has another length than the name, or another last byte
module _ (names lengths text : List ℕ) (part : Part) (j w : ℕ) (slot : SlotIn names lengths j) (field : FieldIn text part) (is : w ≡ get_or lengths j 0) where
  pub other_size : part.end - part.start ≢ w → false ≡ same (name_at names lengths j) (bytes_at text part)
  other_size other =
      let long : length (name_at names lengths j) ≡ get_or lengths j 0 = length-take-le (get_or lengths j 0) (drop (j * 16) names) (omega (arith, length-drop (j * 16) names, slot.room, slot.below, slot.short)) in
      let long' = part_long text part.start part.end field.some_byte field.inside in
      sym (differ_same {v = name_at names lengths j} {w = bytes_at text part} (λ e. let e' = ap (λ (l : List ℕ). length l) e in other (omega arith)))

  pub other_last : part.end - part.start ≡ w → get_or names (j * 16 + w - 1) 0 ≢ get_or text (part.end - 1) 0 → false ≡ same (name_at names lengths j) (bytes_at text part)
  other_last size other =
      sym (differ_same {v = name_at names lengths j} {w = bytes_at text part} (λ e. other (sym named ∙ ap (λ (l : List ℕ). get_or l (w - 1) 0) e ∙ read)))
    where
      some : 0 < w
      some = omega (arith, field.some_byte)

      named : get_or (name_at names lengths j) (w - 1) 0 ≡ get_or names (j * 16 + w - 1) 0
      named =
          let place : j * 16 + (w - 1) ≡ j * 16 + w - 1 = omega (arith, some) in
          get_or-take (get_or lengths j 0) (drop (j * 16) names) (w - 1) 0 (omega (arith, some)) ∙ get_or-drop (j * 16) names (w - 1) 0 ∙ ap (λ p. get_or names p 0) place

      read : get_or (bytes_at text part) (w - 1) 0 ≡ get_or text (part.end - 1) 0
      read =
          let place : part.start + (w - 1) ≡ part.end - 1 = omega (arith, field.some_byte) in
          get_or-take (part.end - part.start) (drop part.start text) (w - 1) 0 (omega (arith, some)) ∙ get_or-drop part.start text (w - 1) 0 ∙ ap (λ p. get_or text p 0) place

-- The place of a name in a list.
place_found : (l : List Field) (w : Field) (j : ℕ) → j < length l → ((i : ℕ) → i < j → same (get_or l i []) w ≡ false) → same (get_or l j []) w ≡ true → j ≡ place_in l w
place_found [] w j less others this = absurd (omega arith)
place_found (n ∷ l) w zero less others this = rw this
place_found (n ∷ l) w (suc j) less others this =
    rw (others 0 (omega arith)) (ap suc (place_found l w j (omega arith) (λ i lt. others (suc i) (omega arith)) this))

place_none : (l : List Field) (w : Field) → ((i : ℕ) → i < length l → same (get_or l i []) w ≡ false) → length l ≡ place_in l w
place_none [] w others = refl
place_none (n ∷ l) w others = rw (others 0 (omega arith)) (ap suc (place_none l w (λ i lt. others (suc i) (omega arith))))

-- the names before j are other ones
pub record Others (names lengths : List ℕ) (w : Field) (j : ℕ) : Type 0 where
  pub other : (i : ℕ) → i < j → same (name_at names lengths i) w ≡ false

module _ (names lengths : List ℕ) (w : Field) where
  pub others_none : Others names lengths w 0
  others_none = record { other = λ i less. absurd (omega arith) }

  module _ (j : ℕ) (others : Others names lengths w j) (r : Bool) (asked : r ≡ same (name_at names lengths j) w) where
    pub others_next : r ≡ false → Others names lengths w (j + 1)
    others_next is =
        record {
          other = λ i less.
              elim (ℕ_discrete i j) [
                | yes e ↦ rw e (sym asked ∙ is)
                | no ne ↦ others.other i (omega arith)
              ];
        }

    pub found_place : r ≡ true → (count : ℕ) → j < count → (l : List Field) → NamesAt names lengths l → length l ≡ count → j ≡ place_in l w
    found_place is count less l at long =
        place_found l w j (omega arith)
        (λ i lt. ap (λ n. same n w) (sym (at.stand i (omega arith))) ∙ others.other i lt)
        (ap (λ n. same n w) (sym (at.stand j (omega arith))) ∙ sym asked ∙ is)

  pub none_place : (j count : ℕ) → Others names lengths w j → count ≤ j → (l : List Field) → NamesAt names lengths l → length l ≡ count → count ≡ place_in l w
  none_place j count others high l at long =
      sym long ∙ place_none l w (λ i lt. ap (λ n. same n w) (sym (at.stand i lt)) ∙ others.other i (omega arith))

-- A part of a list, from what stands up to its end.
part_is : (l : List ℕ) (a k : ℕ) → a ≤ length l → take k (drop a l) ≡ drop a (take (a + k) l)
part_is l a k inside = sym (ap (λ (m : List ℕ). drop a m) (take-add a k l) ∙ drop_at (take a l) (take k (drop a l)) a (length-take-le a l inside))

module _ (names lengths part : List ℕ) (count n : ℕ) (room : length names ≡ 1024) (table : length lengths ≡ most_states) (below : count < most_states)
    (short : n ≤ 16) (long : n ≡ length part) where
  abbrev names' : List ℕ
  names' = paste names (count * 16) part n

  abbrev lengths' : List ℕ
  lengths' = set lengths count n

  names_room : length names' ≡ 1024
  names_room = length-paste names (count * 16) part n (omega arith) (omega arith) ∙ room

  -- names before it stay
  old_name : (j : ℕ) → j < count → get_or lengths j 0 ≤ 16 → name_at names' lengths' j ≡ name_at names lengths j
  old_name j less few =
      let k : ℕ = get_or lengths j 0 in
      let size : get_or lengths' j 0 ≡ k = get_or-set_other lengths count j n 0 (λ e. omega arith) in
      let front : take (j * 16 + k) names' ≡ take (j * 16 + k) names =
      take-append-le (j * 16 + k) (take (count * 16) names ++ take n part) (drop (count * 16 + n) names) (omega (arith, length-append (take (count * 16) names) (take n part), length-take-le (count * 16) names (omega arith)))
      ∙ take-append-le (j * 16 + k) (take (count * 16) names) (take n part) (omega (arith, length-take-le (count * 16) names (omega arith)))
      ∙ take-take (j * 16 + k) (count * 16) names (omega arith) in
      rw size (part_is names' (j * 16) k (omega (arith, names_room)) ∙ ap (λ (l : List ℕ). drop (j * 16) l) front ∙ sym (part_is names (j * 16) k (omega arith)))

  new_name : name_at names' lengths' count ≡ part
  new_name =
      let size : get_or lengths' count 0 ≡ n = get_or-set_same lengths count n 0 (omega arith) in
      let whole : take n part ≡ part = take_all n part (omega arith) in
      rw size
      (part_is names' (count * 16) n (omega (arith, names_room))
      ∙ ap (λ (l : List ℕ). drop (count * 16) l) (take-paste names (count * 16) part n (omega arith) (omega arith))
      ∙ drop_at (take (count * 16) names) (take n part) (count * 16) (length-take-le (count * 16) names (omega arith)) ∙ whole)

  pub name_added : (l : List Field) → NamesAt names lengths l → length l ≡ count → NamesAt names' lengths' (l ++ (part ∷ []))
  name_added l at is =
      let more : length (l ++ (part ∷ [])) ≡ count + 1 = length-append l (part ∷ []) ∙ omega arith in
      record {
        slots_in = record {
          room = names_room;
          table = simp length-set table;
          few = omega arith;
          short = λ j less.
              elim (ℕ_discrete j count) [
                | yes e ↦ rw (e, get_or-set_same lengths count n 0 (omega arith)) short
                | no ne ↦ rw (get_or-set_other lengths count j n 0 ne) (at.slots_in.short j (omega arith))
              ];
        };
        stand = λ j less.
            elim (ℕ_discrete j count) [
              | yes e ↦ rw e (new_name ∙ sym (get_or_at l part [] [] count is))
              | no ne ↦ old_name j (omega arith) (at.slots_in.short j (omega arith)) ∙ at.stand j (omega arith) ∙ sym (get_or-append l (part ∷ []) [] j (omega arith))
            ];
      }

same_both : (v w : Field) → same v w ≡ true → same w v ≡ true
same_both v w e = let is = same_true v w e in rw is (same_refl w)

same_neither : (v w : Field) → same v w ≡ false → same w v ≡ false
same_neither v w e = differ_same {v = w} {w = v} (λ is. same_false {v = v} {w = w} e (sym is))

or_true : (b : Bool) → (b || true) ≡ true
or_true true = refl
or_true false = refl

or_none : (a b : Bool) → (a || b) ≡ false → (a ≡ false) × (b ≡ false)
or_none true b e = absurd (false≢true (sym e))
or_none false b e = (refl, e)

-- The number of a name says whether it is among them.
place_in_lem : (l : List Field) (w : Field) → place_in l w < length l → is_in w l ≡ true
place_in_lem [] w less = absurd (omega arith)
place_in_lem (n ∷ l) w less =
    elim (outcome (same n w)) [
      | inl this ↦ rw (same_both n w this)
      | inr other ↦
          let rest : place_in l w < length l = let e : place_in (n ∷ l) w ≡ suc (place_in l w) = rw other in omega arith in
          rw (place_in_lem l w rest) (or_true (same w n))
    ]

place_out : (l : List Field) (w : Field) → length l ≤ place_in l w → is_in w l ≡ false
place_out [] w over = refl
place_out (n ∷ l) w over =
    elim (outcome (same n w)) [
      | inl this ↦ let e : place_in (n ∷ l) w ≡ 0 = rw this in absurd (omega arith)
      | inr other ↦
          let e : place_in (n ∷ l) w ≡ suc (place_in l w) = rw other in
          rw (same_neither n w other, place_out l w (omega arith))
    ]

-- what is put at the end is found there
place_last : (l : List Field) (w : Field) → is_in w l ≡ false → length l ≡ place_in (l ++ (w ∷ [])) w
place_last [] w none = rw (same_refl w)
place_last (n ∷ l) w none =
    let (this, rest) = or_none (same w n) (is_in w l) none in
    rw (same_neither w n this) (ap suc (place_last l w rest))

module _ (l : List Field) (n : Field) (names lengths : List ℕ) (j count : ℕ) (at : NamesAt names lengths l) (is : length l ≡ count) (found : j ≡ place_in l n) where
  pub named_known : j < count → NamedAs l n names lengths (Some (j, count))
  named_known less =
      let known = place_in_lem l n (omega arith) in
      record { told = rw known (at, found, sym is, less, rw is at at.slots_in) }

  unknown : count ≤ j → is_in n l ≡ false
  unknown over = place_out l n (omega arith)

  pub named_full : count ≤ j → count ≡ 64 → NamedAs l n names lengths None
  named_full over full = record { told = (is ∙ full, unknown over) }

  pub named_new : count ≤ j → (names' lengths' : List ℕ) → NamesAt names' lengths' (l ++ (n ∷ [])) → NamedAs l n names' lengths' (Some (count, count + 1))
  named_new over names' lengths' added =
      let more : length (l ++ (n ∷ [])) ≡ count + 1 = length-append l (n ∷ []) ∙ omega arith in
      record { told = rw (unknown over) (added, sym is ∙ place_last l n (unknown over), sym more, omega arith, rw more at added.slots_in) }
