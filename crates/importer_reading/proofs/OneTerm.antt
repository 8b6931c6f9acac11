-- Laws of a line that says a term.
use Prim.Native.Nat.{ℕ, suc, ◌-◌, ◌≤◌}
use native.Mathlib.Omega.{arith}
use mathlib.Core.Path.{◌≡◌, refl, sym, ap, ◌∙◌, subst}
use mathlib.Core.Logic.{inl, inr}
use mathlib.Core.List.Memᴰ
use mathlib.Core.List.{List, [], ◌∷◌, ◌++◌}
use mathlib.Core.Bool.{Bool, true, false, not, ◌&&◌}
use borrow.Author.Tests.{le-leb, lt-leb, leb-true, not-false, not-true}
use lib.Dec.{eqb, leb}
use lib.ListN.{length, length-append}
use Rattle.rules.specs.Lists.{◌∈◌, any, all}
use Rattle.rules.specs.Sizes.{most_states, counts}
use Rattle.rules.specs.Words.{is_in}
use Rattle.rules.specs.Line.{text}
use Rattle.rules.specs.Kiss2.{Field, Term, Says, term, term_of, numbers_in, names_in, terms_in, ended, may_follow, differ, place_in, output_value}
use Rattle.theory.specs.Lists.{outcome, clash, flat_map_last}
use Rattle.theory.specs.Words.{both, in_is_in, is_in_in}
use Rattle.theory.specs.Kiss2Lines.{may_follow_lem, with_name}
use Rattle.importer_lines.specs.declared.Part.{Part}
use Rattle.importer_lines.specs.Parts.{bytes_at, FieldIn}
use Rattle.importer_says.specs.Said.{NameIn}
use Rattle.importer_counts.specs.declared.Counts.{Counts}
use Rattle.std.specs.Prelude.{Option, None, Some, Ok, Err, option_to_list, unwrap_or}
use Rattle.importer_counts.specs.Counts.{CountsAt, term_fits, TermCountedAs, TermCounted}
use Rattle.importer_counts.proofs.OneMore.{same_number}
use Rattle.importer_names.proofs.Table.{part_long}
use Rattle.importer_terms.specs.declared.NumberedTerm.{NumberedTerm}
use Rattle.importer_terms.specs.Terms.{OutputIn}
use Rattle.importer_terms.specs.Entries.{EntriesAt, TermsOver, TermIn, TermOver}
use Rattle.importer_terms.proofs.Naming.{terms_named, entries_more}
use Rattle.importer_terms.proofs.Entering.{terms_more}
use Rattle.importer_terms.proofs.Differing.{contradicts-term}
use Rattle.importer_ranks.specs.Ranks.{RanksAt, order_of}
use Rattle.importer_ranks.proofs.Ranking.{ranks_more}
use Rattle.importer_ranks.proofs.Ordering.{order_more, names_more}
use Rattle.importer_reading.specs.declared.Progress.{Progress}
use Rattle.importer_reading.specs.declared.TermParts.{TermParts}
use Rattle.importer_reading.specs.declared.LineFault.TheVariants.{Bad, Contradicts}
use Rattle.importer_reading.specs.Both.{with_both, BothOf, BothAs}
use Rattle.importer_reading.specs.Held.{Held, Stepped}
use Rattle.importer_reading.specs.Terms.{TermFields, term_at, NamedTerm, NamedOf, NamedTermAs, Ready, EnteredOf, EnteredAs}
use Rattle.importer_reading.proofs.Following.{listed_same}
use Rattle.importer_reading.proofs.TwoNames.{with_longer}

and_last : (a b c d e : Bool) → (a && b && c && d && e) ≡ ((a && b && c && d) && e)
and_last true true true true e = refl
and_last false b c d e = refl
and_last true false c d e = refl
and_last true true false d e = refl
and_last true true true false e = refl

-- whether there are not more states than there may be
abbrev few_states : List Says → Term → Bool
few_states before t = all (leb (length (names_in (before ++ (term t ∷ []))))) (most_states ∷ numbers_in (text ".s") before)

in_listed : (n : ℕ) (m : Option ℕ) → n ∈ option_to_list m → n ≡ unwrap_or m 0
in_listed n None here = absurd (Memᴰ.not-nil here)
in_listed n (Some m) here = Memᴰ.eq_of_singleton here

pub name_short : {s : List ℕ} {p : Part} → NameIn s p → p.end - p.start ≤ 16
name_short {s = s} {p = p} name =
    let (counted, letters) = both {a = counts 16 (length (bytes_at s p))} name.is_a_name in
    let (some_byte, few) = both {a = leb 1 (length (bytes_at s p))} counted in
    omega (arith, leb-true (length (bytes_at s p)) 16 few, part_long s p.start p.end name.field_in.some_byte name.field_in.inside)

pub field_long : {s : List ℕ} {p : Part} → FieldIn s p → length (bytes_at s p) ≡ p.end - p.start
field_long {s = s} {p = p} field = sym (part_long s p.start p.end field.some_byte field.inside)

-- a name among the names
module _ (l : List Field) (n : Field) where
  with_itself : n ∈ with_name l n
  with_itself = elim (outcome (is_in n l)) [ inl known ↦ rw known (is_in_in known) | inr new ↦ rw new (Memᴰ.append_right l (Memᴰ.head refl)) ]

  with_others : (w : Field) → w ∈ l → w ∈ with_name l n
  with_others w here = elim (outcome (is_in n l)) [ inl known ↦ rw known here | inr new ↦ rw new (Memᴰ.append_left (n ∷ []) here) ]

  terms_with : (bits : ℕ) (terms : List Term) → TermsOver l bits terms → TermsOver (with_name l n) bits terms
  terms_with bits terms over = elim (outcome (is_in n l)) [ inl known ↦ rw known over | inr new ↦ rw new (terms_named l bits terms over n) ]

  entries_with : (bits : ℕ) (terms : List Term) → TermsOver l bits terms → (nexts outputs : List ℕ) → EntriesAt nexts outputs l terms → EntriesAt nexts outputs (with_name l n) terms
  entries_with bits terms over nexts outputs at =
      elim (outcome (is_in n l)) [ inl known ↦ rw known at | inr new ↦ rw new (entries_more l bits terms over n nexts outputs at) ]

  ranks_with : (ranks : List ℕ) (order : List Field) → RanksAt ranks l order → length (with_name l n) ≤ most_states → RanksAt ranks (with_name l n) order
  ranks_with ranks order at room =
      elim (outcome (is_in n l)) [
        | inl known ↦ rw known at
        | inr new ↦
            let long : length (with_name l n) ≡ length (l ++ (n ∷ [])) = rw new in
            rw new (ranks_more ranks l order at n (λ here. clash (in_is_in here) new) (omega (arith, length-append l (n ∷ []))))
      ]

-- The counts x of the lines before; a term that stands at the parts; and what counting it came to.
module _ (s : List ℕ) (before : List Says) (x : Counts) (counts_at : CountsAt before x) (parts : TermParts) (fields : TermFields s parts) where
  follows_is : may_follow before (term (term_at s parts)) ≡ (term_fits before (term_at s parts) && few_states before (term_at s parts))
  follows_is =
      and_last (not (ended before)) (any (eqb (length (bytes_at s parts.cube))) (numbers_in (text ".i") before))
      (any (eqb (length (bytes_at s parts.output))) (numbers_in (text ".o") before)) (all (leb (suc (length (terms_in before)))) (numbers_in (text ".p") before))
      (few_states before (term_at s parts))

  module _ (r : Option Counts) (counted : TermCounted before (term_at s parts) r) where
    not_fitting : r ≡ None → may_follow before (term (term_at s parts)) ≡ false
    not_fitting is = let told : term_fits before (term_at s parts) ≡ false = rw is at counted.told in follows_is ∙ rw told

    pub term_misfits : r ≡ None → (names lengths : List ℕ) → NamedTermAs s before (term_at s parts) names lengths None
    term_misfits is names lengths = record { told = not_fitting is }

    module _ (y : Counts) (is : r ≡ Some y) (names lengths : List ℕ) (b : Option (ℕ × ℕ × ℕ))
        (named : BothAs (names_in before) (bytes_at s parts.current) (bytes_at s parts.next) names lengths b) where
      fits : TermCountedAs before (term_at s parts) (Some y)
      fits = rw is at counted.told

      after : names_in (before ++ (term (term_at s parts) ∷ [])) ≡ with_both (names_in before) (bytes_at s parts.current) (bytes_at s parts.next)
      after = names_more before (term_at s parts)

      pub no_room : b ≡ None → NamedTermAs s before (term_at s parts) names lengths None
      no_room full =
          let told : BothOf (names_in before) (bytes_at s parts.current) (bytes_at s parts.next) names lengths None = rw full at named.told in
          let over : leb (length (names_in (before ++ (term (term_at s parts) ∷ [])))) most_states ≡ false = lt-leb (length (names_in (before ++ (term (term_at s parts) ∷ [])))) most_states (rw after told) in
          record { told = follows_is ∙ rw (fits.0, over) }

      module _ (one other many : ℕ) (at : b ≡ Some (one, other, many)) where
        told : BothOf (names_in before) (bytes_at s parts.current) (bytes_at s parts.next) names lengths (Some (one, other, many))
        told = rw at at named.told

        so_many : many ≡ length (names_in (before ++ (term (term_at s parts) ∷ [])))
        so_many = rw after told.3

        few_is : (v : Bool) → v ≡ all (leb many) (option_to_list y.state_count) → few_states before (term_at s parts) ≡ v
        few_is v asked =
            let room : leb many most_states ≡ true = le-leb many most_states (omega (arith, told.0.slots_in.few, told.3)) in
            let said : numbers_in (text ".s") before ≡ option_to_list y.state_count = sym (same_number before (term (term_at s parts)) (text ".s") refl) ∙ fits.1.state_count in
            ap (λ (n : ℕ). all (leb n) (most_states ∷ numbers_in (text ".s") before)) (sym so_many) ∙ rw (room, said) (sym asked)

        module _ (v : Bool) (asked : v ≡ all (leb many) (option_to_list y.state_count)) where
          pub too_many : not v ≡ true → NamedTermAs s before (term_at s parts) names lengths None
          too_many over = record { told = follows_is ∙ rw (fits.0, few_is v asked, not-true v over) }

          module _ (good : not v ≡ false) where
            follows : may_follow before (term (term_at s parts)) ≡ true
            follows = follows_is ∙ rw (fits.0, few_is v asked, not-false v good)

            bits_said : (length (bytes_at s parts.cube) ≡ unwrap_or x.input_bits 0) × (length (bytes_at s parts.output) ≡ unwrap_or x.output_bits 0)
            bits_said =
                let may = (may_follow_lem before (term (term_at s parts))).0 follows in
                (in_listed _ _ (rw counts_at.input_bits at may.inputs), in_listed _ _ (rw counts_at.output_bits at may.outputs))

            pub output_in : OutputIn s parts.output
            output_in =
                record {
                  field_in = fields.output_in;
                  is_output = fields.is_output;
                  short = omega (arith, field_long fields.output_in, bits_said.1, counts_at.few_outputs);
                }

            pub term_ready : (w : ℕ) → Ready s (Some (y, record { cube = parts.cube; current = one; next = other; output = w }, many))
            term_ready w =
                record {
                  told = record {
                    cube_in = record {
                      field_in = fields.cube_in;
                      is_cube = fields.is_cube;
                      short = omega (arith, field_long fields.cube_in, bits_said.0, counts_at.few_inputs);
                    };
                    current = told.4;
                    next = told.5;
                  };
                }

            pub term_named : (w : ℕ) → w ≡ output_value (bytes_at s parts.output)
                → NamedTermAs s before (term_at s parts) names lengths (Some (y, record { cube = parts.cube; current = one; next = other; output = w }, many))
            term_named w value =
                let bits : y.output_bits ≡ x.output_bits =
                listed_same _ _ (sym fits.1.output_bits ∙ same_number before (term (term_at s parts)) (text ".o") refl ∙ counts_at.output_bits) in
                record {
                  told = (
                    follows,
                    fits.1,
                    rw after told.0,
                    so_many,
                    record {
                      cube_is = refl;
                      current_in = rw after (with_others (with_name (names_in before) (bytes_at s parts.current)) (bytes_at s parts.next) _ (with_itself (names_in before) (bytes_at s parts.current)));
                      current_is = rw after told.1;
                      next_in = rw after (with_itself (with_name (names_in before) (bytes_at s parts.current)) (bytes_at s parts.next));
                      next_is = rw after told.2;
                      is_output = fields.is_output;
                      long = bits_said.1 ∙ sym (ap (λ o. unwrap_or o 0) bits);
                      output_is = value;
                    },
                  );
                }

pub ready_in : {s : List ℕ} {r : Option NamedTerm} {y : Counts} {n : NumberedTerm} {many : ℕ} → Ready s r → r ≡ Some (y, n, many) → TermIn s n
ready_in ready is = rw is at ready.told

-- what the line comes to, once the term is named
module _ (before : List Says) (x : Progress) (names lengths nexts outputs ranks : List ℕ) (held : Held before x names lengths nexts outputs ranks)
    (s : List ℕ) (t : Term) (names' lengths' : List ℕ) (r : Option NamedTerm) (named : NamedTermAs s before t names' lengths' r) where
  pub term_bad : r ≡ None → (nexts' outputs' ranks' : List ℕ) → Stepped before (term t) names' lengths' nexts' outputs' ranks' (Err Bad)
  term_bad is nexts' outputs' ranks' = record { told = rw is at named.told }

  module _ (y : Counts) (n : NumberedTerm) (many : ℕ) (is : r ≡ Some (y, n, many)) where
    as_told : NamedOf s before t names' lengths' (Some (y, n, many))
    as_told = rw is at named.told

    names_after : names_in (before ++ (term t ∷ [])) ≡ with_both (names_in before) t.current t.next
    names_after = names_more before t

    pub term_over : TermOver s n (names_in (before ++ (term t ∷ []))) (unwrap_or y.output_bits 0) t
    term_over = as_told.4

    pub terms_over : TermsOver (names_in (before ++ (term t ∷ []))) (unwrap_or y.output_bits 0) (terms_in before)
    terms_over =
        let bits : y.output_bits ≡ x.counts.output_bits =
        listed_same _ _ (sym as_told.1.output_bits ∙ same_number before (term t) (text ".o") refl ∙ held.counted.output_bits) in
        rw (names_after, bits) (terms_with (with_name (names_in before) t.current) t.next _ _ (terms_with (names_in before) t.current _ _ held.over))

    pub entries_at : EntriesAt nexts outputs (names_in (before ++ (term t ∷ []))) (terms_in before)
    entries_at =
        rw names_after
        (entries_with (with_name (names_in before) t.current) t.next _ _ (terms_with (names_in before) t.current _ _ held.over) _ _ (entries_with (names_in before) t.current _ _ held.over _ _ held.entered))

    ranks_at : RanksAt ranks (names_in (before ++ (term t ∷ []))) (order_of before)
    ranks_at =
        let room : length (with_both (names_in before) t.current t.next) ≤ most_states = rw names_after at as_told.2.slots_in.few in
        let room' : length (with_name (names_in before) t.current) ≤ most_states = omega (arith, with_longer (with_name (names_in before) t.current) t.next) in
        rw names_after (ranks_with (with_name (names_in before) t.current) t.next ranks (order_of before) (ranks_with (names_in before) t.current ranks (order_of before) held.ranked room') room)

    module _ (nexts' outputs' : List ℕ) (e : Bool) (entered : EnteredAs nexts' outputs' (names_in (before ++ (term t ∷ []))) (terms_in before) t e) where
      pub term_contradicts : e ≡ true → (ranks' : List ℕ) → Stepped before (term t) names' lengths' nexts' outputs' ranks' (Err Contradicts)
      term_contradicts against ranks' =
          let differs : any (differ t) (terms_in before) ≡ true = rw against at entered.told in
          record { told = (as_told.0, contradicts-term before t ∙ differs) }

      pub term_goes : e ≡ false → (ranks' : List ℕ) (k : ℕ)
          → ((names order : List Field) (w : Field) → RanksAt ranks names order → w ∈ names → n.current ≡ place_in names w → x.ranked ≡ length order
          → RanksAt ranks' names (with_name order w) × (k ≡ length (with_name order w)))
          → Stepped before (term t) names' lengths' nexts' outputs' ranks' (Ok (record { counts = y; names = many; ranked = k }))
      term_goes alike ranks' k given =
          let put : EnteredOf nexts' outputs' (names_in (before ++ (term t ∷ []))) (terms_in before) t false = rw alike at entered.told in
          let (ranked_at, counted_k) = given _ (order_of before) t.current ranks_at term_over.current_in term_over.current_is held.so_many in
          let terms_are : terms_in (before ++ (term t ∷ [])) ≡ terms_in before ++ (t ∷ []) = flat_map_last term_of before (term t) in
          record {
            told = (
              as_told.0,
              contradicts-term before t ∙ put.0,
              record {
                counted = as_told.1;
                named = as_told.2;
                many = as_told.3;
                entered = subst (λ ts. EntriesAt nexts' outputs' (names_in (before ++ (term t ∷ []))) ts) (sym terms_are) put.1;
                over = subst (λ ts. TermsOver (names_in (before ++ (term t ∷ []))) (unwrap_or y.output_bits 0) ts) (sym terms_are) (terms_more s n _ (unwrap_or y.output_bits 0) (terms_in before) t terms_over term_over put.0);
                ranked = rw (order_more before t) ranked_at;
                so_many = rw (order_more before t) counted_k;
              },
            );
          }
