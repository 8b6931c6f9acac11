-- Laws of taking one field after the other, and counting them.
use Prim.Native.Nat.{ℕ, ◌+◌, ◌≤◌, ◌<◌}
use native.Mathlib.Nat.{eq-or-lt_of_le}
use native.Mathlib.Omega.{arith}
use mathlib.Core.Path.{◌≡◌, ap, ◌∙◌}
use mathlib.Core.Logic.{⊎_elim}
use mathlib.Core.List.{List, [], ◌∷◌}
use mathlib.Core.Bool.{true, false}
use borrow.Author.Tests.{lt-ltb, le-ltb, not-true}
use lib.ListN.{length, get_or}
use Rattle.rules.specs.Kiss2.{Field, is_gap, fields_of}
use Rattle.importer_lines.specs.declared.Part.{Part}
use Rattle.importer_lines.specs.Parts.{part_at, bytes_at, FieldIn, FirstAt}
use Rattle.importer_lines.specs.Fields.{no_gap, held_of, NextField, no_field, a_field, FieldsAt, fields_behind_gaps, fields_next, fields_none}

-- from the first byte that is no gap to the next gap
module _ (s : List ℕ) (from end start stop : ℕ) (fits : end ≤ length s) (starts : FirstAt no_gap s from end start) (stops : FirstAt is_gap s start end stop) where
  pub next_found : NextField s from end (record { start = start; end = stop })
  next_found = ⊎_elim none_left some_left (eq-or-lt_of_le {n = start} {m = end} starts.inside)
    where
      skipped : fields_of (part_at s from end) ≡ fields_of (part_at s start end)
      skipped = fields_behind_gaps s from end start fits starts

      none_left : start ≡ end → NextField s from end (record { start = start; end = stop })
      none_left at_end =
          no_field (skipped ∙ fields_none s start end (omega arith)) at_end (omega (arith, stops.behind, stops.inside))

      some_left : start < end → NextField s from end (record { start = start; end = stop })
      some_left less =
          ⊎_elim
          (λ e.
          let gap : is_gap (get_or s start 0) ≡ true = rw (← e) at (stops.there (omega arith)) in
          let byte : is_gap (get_or s start 0) ≡ false = not-true _ (starts.there less) in
          let z : ◌≡◌ {A = ℕ} 0 1 = cc in
          absurd (omega arith))
          (λ some_byte. a_field starts.behind some_byte stops.inside (skipped ∙ fields_next s start end stop fits some_byte stops))
          (eq-or-lt_of_le {n = start} {m = stop} stops.behind)

-- h is 1 where p was the next field, and 0 where there was none
record Took (s : List ℕ) (from end : ℕ) (p : Part) (h : ℕ) : Type 0 where
  pub one : h ≤ 1
  pub took : 1 ≤ h → fields_of (part_at s from end) ≡ bytes_at s p ∷ fields_of (part_at s p.end end)
  pub stopped : h ≡ 0 → fields_of (part_at s from end) ≡ []
  pub field_in : 1 ≤ h → FieldIn s p

taking : (s : List ℕ) (from end : ℕ) (p : Part) (h : ℕ) → end ≤ length s → NextField s from end p → h ≡ held_of p → Took s from end p h
taking s from end p h fits (no_field ended start stop) is =
    let none_held : h ≡ 0 = is ∙ rw (le-ltb p.start p.end (omega arith)) in
    record {
      one = omega arith;
      took = λ held. absurd (omega arith);
      stopped = λ e. ended;
      field_in = λ held. absurd (omega arith);
    }
taking s from end p h fits (a_field after some_byte inside found) is =
    let one_held : h ≡ 1 = is ∙ rw (lt-ltb p.start p.end some_byte) in
    record {
      one = omega arith;
      took = λ held. found;
      stopped = λ e. absurd (omega arith);
      field_in = λ held. record { some_byte = some_byte; inside = omega arith };
    }

-- where there was no field, there is none behind it
falling : (s : List ℕ) (from end : ℕ) (p q : Part) (h k : ℕ) → NextField s from end p → NextField s p.end end q → h ≡ held_of p → k ≡ held_of q → k ≤ 1 → k ≤ h
falling s from end p q h k (a_field after some_byte inside found) next is then_is one =
    let one_held : h ≡ 1 = is ∙ rw (lt-ltb p.start p.end some_byte) in
    omega arith
falling s from end p q h k (no_field ended start stop) (no_field then_ended then_start then_stop) is then_is one =
    let none_held : k ≡ 0 = then_is ∙ rw (le-ltb q.start q.end (omega arith)) in
    omega arith
falling s from end p q h k (no_field ended start stop) (a_field after some_byte inside found) is then_is one = absurd (omega arith)

-- five fields one after the other, of which the fifth says only that there is one
module _ (s : List ℕ) (from end : ℕ) (a b c d e : Part) (i j k l m : ℕ)
    (first : Took s from end a i) (second : Took s a.end end b j) (third : Took s b.end end c k) (fourth : Took s c.end end d l) (fifth : Took s d.end end e m)
    (j_falls : j ≤ i) (k_falls : k ≤ j) (l_falls : l ≤ k) (m_falls : m ≤ l) where
  counted : FieldsAt s from end (record { count = i + j + k + l + m; a = a; b = b; c = c; d = d })
  counted =
      let i_one = first.one in
      let j_one = second.one in
      let k_one = third.one in
      let l_one = fourth.one in
      let m_one = fifth.one in
      record {
        few = omega arith;
        some_first = λ n. (fields_of (part_at s a.end end), first.took (omega arith));
        no_fields = λ n. first.stopped (omega arith);
        one = λ n. one_more (first.took (omega arith)) (second.stopped (omega arith));
        two = λ n. one_more (first.took (omega arith)) (one_more (second.took (omega arith)) (third.stopped (omega arith)));
        three = λ n. one_more (first.took (omega arith)) (one_more (second.took (omega arith)) (one_more (third.took (omega arith)) (fourth.stopped (omega arith))));
        four = λ n. one_more (first.took (omega arith)) (one_more (second.took (omega arith)) (one_more (third.took (omega arith)) (one_more (fourth.took (omega arith)) (fifth.stopped (omega arith)))));
        more = λ n. (bytes_at s e, fields_of (part_at s e.end end), one_more (first.took (omega arith)) (one_more (second.took (omega arith)) (one_more (third.took (omega arith)) (one_more (fourth.took (omega arith)) (fifth.took (omega arith))))));
        first = λ n. first.field_in (omega arith);
        second = λ n. second.field_in (omega arith);
        third = λ n. third.field_in (omega arith);
        fourth = λ n. fourth.field_in (omega arith);
      }
    where
      one_more : {x : Field} {xs ys zs : List Field} → xs ≡ x ∷ ys → ys ≡ zs → xs ≡ x ∷ zs
      one_more {x} front back = front ∙ ap (λ (l : List Field). x ∷ l) back

-- what `held` says of a part
abbrev Held : Part → ℕ → Type 0
Held p h = (h ≡ held_of p) × (h ≤ 1)

pub five_taken : {s : List ℕ} {from end : ℕ} {a b c d e : Part} {i j k l m : ℕ} → end ≤ length s
    → NextField s from end a → NextField s a.end end b → NextField s b.end end c → NextField s c.end end d → NextField s d.end end e
    → Held a i → Held b j → Held c k → Held d l → Held e m → FieldsAt s from end (record { count = i + j + k + l + m; a = a; b = b; c = c; d = d })
five_taken fits first second third fourth fifth i_held j_held k_held l_held m_held =
    counted _ _ _ _ _ _ _ _ _ _ _ _ _
    (taking _ _ _ _ _ fits first i_held.0)
    (taking _ _ _ _ _ fits second j_held.0)
    (taking _ _ _ _ _ fits third k_held.0)
    (taking _ _ _ _ _ fits fourth l_held.0)
    (taking _ _ _ _ _ fits fifth m_held.0)
    (falling _ _ _ _ _ _ _ first second i_held.0 j_held.0 j_held.1)
    (falling _ _ _ _ _ _ _ second third j_held.0 k_held.0 k_held.1)
    (falling _ _ _ _ _ _ _ third fourth k_held.0 l_held.0 l_held.1)
    (falling _ _ _ _ _ _ _ fourth fifth l_held.0 m_held.0 m_held.1)
