-- Laws of the entries: when a term differs from an earlier one.
use Prim.Native.Nat.{ℕ, suc, ◌+◌, ◌^◌, ◌≤◌, ◌<◌}
use native.Mathlib.Omega.{arith}
use native.Mathlib.Decide.{ℕ_discrete}
use native.Mathlib.Nat.{pow-le-pow_right}
use mathlib.Core.Path.{◌≡◌, refl, sym, ap, ◌∙◌}
use mathlib.Core.Logic.{◌≢◌, ◌⊎◌, inl, inr}
use mathlib.Core.List.{List}
use mathlib.Core.Bool.{Bool, true, false, not}
use mathlib.Core.Option.{Option, some}
use borrow.Author.Tests.{eqb-true, eq-eqb, ne_eqb}
use lib.Dec.{eqb}
use lib.ListN.{length, get_or}
use lib.Seq.{ext_get_or}
use Rattle.rules.specs.Lists.{◌∈◌, any, first}
use Rattle.rules.specs.Sizes.{most_inputs}
use Rattle.rules.specs.Words.{same}
use Rattle.rules.specs.Kiss2.{Field, Term, Says, term, is_output, terms_in, opened, output_value, is_about, differ, contradicts, place_in}
use Rattle.theory.specs.Lists.{outcome, optional, clash, any-true, any_of, none_any, first-none, first_some, rising_either}
use Rattle.theory.specs.Words.{both, same_true, same_false}
use Rattle.theory.specs.Cubes.{opened_small, output_bits}
use Rattle.theory.specs.Kiss2Lines.{About, about_is, Differ, differ_swap, differ_is}
use Rattle.theory.specs.Kiss2Units.{place_apart}
use Rattle.importer_lines.specs.Parts.{bytes_at}
use Rattle.importer_terms.specs.declared.NumberedTerm.{NumberedTerm}
use Rattle.importer_terms.specs.Terms.{CubeIn}
use Rattle.importer_terms.specs.Entries.{entry_place, next_mark, output_mark, EntriesAt, TermsOver, TermOver, says_else, has_input, is_against}
use Rattle.importer_terms.proofs.Bits.{part_long}

-- Outputs of as many bits are the same where their values are.
pub output_same : (a b : Field) → is_output a ≡ true → is_output b ≡ true → length a ≡ length b → output_value a ≡ output_value b → a ≡ b
output_same a b bits bits' long value =
    ext_get_or 0 a b long
    (λ j less. output_bits a bits j less ∙ rw (long, value) (sym (output_bits b bits' j (omega arith))))

-- what an entry says beside a term, by what the two tables hold
module _ (mark value : ℕ) (x : NumberedTerm) where
  pub else_nothing : mark ≡ 0 → false ≡ says_else mark value x
  else_nothing is = rw (eq-eqb mark 0 is)

  module _ (there : mark ≡ 0 → ⊥) (w : ℕ) (wide : w ≡ mark) where
    pub else_next : (w ≡ x.next + 1 → ⊥) → true ≡ says_else mark value x
    else_next other = rw (ne_eqb mark 0 there, ne_eqb mark (x.next + 1) (λ e. other (wide ∙ e)))

    pub else_output : w ≡ x.next + 1 → not (eqb value x.output) ≡ says_else mark value x
    else_output is = rw (ne_eqb mark 0 there, eq-eqb mark (x.next + 1) (sym wide ∙ is))

  else_none : mark ≡ x.next + 1 → value ≡ x.output → says_else mark value x ≡ false
  else_none next output =
      let there : mark ≡ 0 → ⊥ = λ e. omega arith in
      rw (ne_eqb mark 0 there, eq-eqb mark (x.next + 1) next, eq-eqb value x.output output)

  else_either : (mark ≡ 0 → ⊥) → (mark ≢ x.next + 1) ⊎ (value ≢ x.output) → says_else mark value x ≡ true
  else_either there (inl other) = sym (else_next there mark refl other)
  else_either there (inr other) =
      elim (outcome (eqb mark (x.next + 1))) [
        | inl is ↦ rw (ne_eqb mark 0 there, is, ne_eqb value x.output other)
        | inr not_is ↦ rw (ne_eqb mark 0 there, not_is)
      ]

-- what the tables hold of a term's own state
module _ {text nexts outputs : List ℕ} {x : NumberedTerm} {names : List Field} {bits : ℕ} {terms : List Term} {t : Term}
    (at : EntriesAt nexts outputs names terms) (as_term : TermOver text x names bits t) (i : ℕ) (few : i < most_inputs) where
  pub mark_is : get_or nexts (entry_place x.current i) 0 ≡ next_mark names (first (is_about t.current i) terms)
  mark_is = rw as_term.current_is (at.next_at t.current as_term.current_in i few)

  pub value_is : get_or outputs (entry_place x.current i) 0 ≡ output_mark (first (is_about t.current i) terms)
  value_is = rw as_term.current_is (at.output_at t.current as_term.current_in i few)

-- whether the cube has an input is asked first, and then what its entry says
module _ (text : List ℕ) (x : NumberedTerm) (nexts outputs : List ℕ) (i : ℕ) (b : Bool) (asked : b ≡ has_input text x i) where
  pub against_without : b ≡ false → false ≡ is_against text x nexts outputs i
  against_without is = let has : has_input text x i ≡ false = sym asked ∙ is in rw has

  pub against_by : b ≡ true → (p : ℕ) → p ≡ entry_place x.current i → (r : Bool) → r ≡ says_else (get_or nexts p 0) (get_or outputs p 0) x
      → r ≡ is_against text x nexts outputs i
  against_by is p place r answer =
      let has : has_input text x i ≡ true = sym asked ∙ is in
      rw has (rw place at answer)

-- the inputs before i have no entries that say something else
pub record NoneAgainst (text : List ℕ) (x : NumberedTerm) (nexts outputs : List ℕ) (i : ℕ) : Type 0 where
  pub alike : (j : ℕ) → j < i → is_against text x nexts outputs j ≡ false

module _ (text : List ℕ) (x : NumberedTerm) (nexts outputs : List ℕ) where
  pub against_start : NoneAgainst text x nexts outputs 0
  against_start = record { alike = λ j less. absurd (omega arith) }

  pub against_next : (i : ℕ) → NoneAgainst text x nexts outputs i → (j : ℕ) → j ≡ i → (r : Bool) → r ≡ is_against text x nexts outputs j → r ≡ false
      → NoneAgainst text x nexts outputs (i + 1)
  against_next i so_far j this r asked is =
      record { alike = λ m less. elim (ℕ_discrete m i) [ yes e ↦ rw (e, ← this) (sym asked ∙ is) | no ne ↦ so_far.alike m (omega arith) ] }

  module _ (names : List Field) (bits : ℕ) (terms : List Term) (t : Term) (at : EntriesAt nexts outputs names terms) (over : TermsOver names bits terms)
      (as_term : TermOver text x names bits t) where
    -- the first term about the term's state and an input
    abbrev found : ℕ → Option Term
    found i = first (is_about t.current i) terms

    in_cube : (i : ℕ) → has_input text x i ≡ true → i ∈ opened t.cube
    in_cube i has =
        let (y, m, is) = any-true (eqb i) (opened (bytes_at text x.cube)) has in
        rw (as_term.cube_is, eqb-true i y is) m

    -- where both say the same, the entry says nothing else
    says_same : (e : Term) (i : ℕ) → i < most_inputs → found i ≡ some e → t.next ≡ e.next → t.output ≡ e.output
        → says_else (get_or nexts (entry_place x.current i) 0) (get_or outputs (entry_place x.current i) 0) x ≡ false
    says_same e i few is next output =
        else_none _ _ x
        (mark_is at as_term i few ∙ ap (next_mark names) is ∙ ap (λ (n : Field). suc (place_in names n)) (sym next) ∙ omega (arith, as_term.next_is))
        (value_is at as_term i few ∙ ap output_mark is ∙ ap output_value (sym output) ∙ sym as_term.output_is)

    pub against_found : (i j : ℕ) → j ≡ i → i < most_inputs → (r : Bool) → r ≡ is_against text x nexts outputs j → r ≡ true → true ≡ any (differ t) terms
    against_found i j this few r asked is =
        let against : is_against text x nexts outputs i ≡ true = rw (← this) (sym asked ∙ is) in
        let (has, other) = both {a = has_input text x i} against in
        elim (optional (found i)) [
          | inl nothing ↦ clash other (sym (else_nothing _ _ x (mark_is at as_term i few ∙ ap (next_mark names) nothing)))
          | inr (e, there) ↦
              let (m, about) = first_some (is_about t.current i) terms there in
              let (current, in_e) = (about_is t.current i e).0 about in
              let otherwise : (t.next ≢ e.next) ⊎ (t.output ≢ e.output) =
              elim (outcome (same t.next e.next)) [
                | inr no_next ↦ inl (same_false no_next)
                | inl next ↦
                    elim (outcome (same t.output e.output)) [
                      | inr no_output ↦ inr (same_false no_output)
                      | inl output ↦ clash other (says_same e i few there (same_true _ _ next) (same_true _ _ output))
                    ]
              ]
              in
              sym (any_of (differ t) m
              ((differ_is t e).1 (record { input = i; in_one = in_cube i has; in_other = in_e; same_state = sym current; otherwise = otherwise })))
        ]

    -- terms that were read say the same of what both are about
    agree : (i : ℕ) (e f : Term) → e ∈ terms → f ∈ terms → About t.current i e → About t.current i f → (e.next ≡ f.next) × (e.output ≡ f.output)
    agree i e f in_e in_f (current, has) (current', has') =
        let never : ¬ Differ e f =
        elim (rising_either _ terms over.alike e f in_e in_f) [
          | inl is ↦ λ d. elim d.otherwise [ inl n ↦ n (ap (λ (z : Term). z.next) is) | inr n ↦ n (ap (λ (z : Term). z.output) is) ]
          | inr (inl alike) ↦ λ d. alike (differ_swap e f d)
          | inr (inr alike) ↦ alike
        ]
        in
        let apart : (e.next ≢ f.next) ⊎ (e.output ≢ f.output) → ⊥ = λ other.
        never (record { input = i; in_one = has; in_other = has'; same_state = current ∙ sym current'; otherwise = other })
        in (
          elim (outcome (same e.next f.next)) [ inl is ↦ same_true _ _ is | inr other ↦ absurd (apart (inl (same_false other))) ],
          elim (outcome (same e.output f.output)) [ inl is ↦ same_true _ _ is | inr other ↦ absurd (apart (inr (same_false other))) ],
        )

    module _ (cube_in : CubeIn text x.cube) where
      input_few : (i : ℕ) → i ∈ opened t.cube → i < most_inputs
      input_few i m =
          let small = opened_small (bytes_at text x.cube) cube_in.is_cube i (rw as_term.cube_is at m) in
          let long = part_long text x.cube.start x.cube.end cube_in.field_in.some_byte cube_in.field_in.inside in
          let short : length (bytes_at text x.cube) ≤ 4 = omega (arith, cube_in.short) in
          let most : 2 ^ length (bytes_at text x.cube) ≤ 2 ^ 4 = pow-le-pow_right {n = 2} (omega arith) short in
          omega arith

      -- a term that differs is against the entry, which speaks for all terms about it
      against_it : (e : Term) → e ∈ terms → (d : Differ t e) → is_against text x nexts outputs d.input ≡ true
      against_it e m d =
          let i = d.input in
          let few = input_few i d.in_one in
          let has : has_input text x i ≡ true = any_of (eqb i) (rw as_term.cube_is at d.in_one) (eq-eqb i i refl) in
          let about : About t.current i e = (sym d.same_state, d.in_other) in
          elim (optional (found i)) [
            | inl nothing ↦ clash ((about_is t.current i e).1 about) (first-none (is_about t.current i) nothing m)
            | inr (f, there) ↦
                let (in_f, about_f) = first_some (is_about t.current i) terms there in
                let (next, output) = agree i e f m in_f about ((about_is t.current i f).0 about_f) in
                let mark = mark_is at as_term i few ∙ ap (next_mark names) there in
                let value = value_is at as_term i few ∙ ap output_mark there in
                let other : (get_or nexts (entry_place x.current i) 0 ≢ x.next + 1) ⊎ (get_or outputs (entry_place x.current i) 0 ≢ x.output) =
                elim d.otherwise [
                  | inl no_next ↦
                      inl (λ is. no_next (place_apart names t.next e.next as_term.next_in (over.nexts e m)
                      (let far = ap (place_in names) next in omega (arith, as_term.next_is))))
                  | inr no_output ↦ inr (λ is. no_output (output_same t.output e.output as_term.is_output (over.outputs e m)
                      (as_term.long ∙ sym (over.long e m)) (sym as_term.output_is ∙ sym is ∙ value ∙ ap output_value (sym output))))
                ]
                in
                rw has (else_either _ _ x (λ z. omega arith) other)
          ]

      pub none_against : (n : ℕ) → NoneAgainst text x nexts outputs n → most_inputs ≤ n → false ≡ any (differ t) terms
      none_against n none_there over_all =
          sym (none_any (differ t) terms
          (λ e m.
          elim (outcome (differ t e)) [
            | inl d ↦
                let differs = (differ_is t e).0 d in
                clash (against_it e m differs) (none_there.alike differs.input (omega (arith, input_few differs.input differs.in_one)))
            | inr alike ↦ alike
          ]))

-- What rule 12 says of a line with a term.
pub contradicts-term : (before : List Says) (t : Term) → contradicts before (term t) ≡ any (differ t) (terms_in before)
contradicts-term before t = elim (outcome (any (differ t) (terms_in before))) [ inl some_differ ↦ rw some_differ | inr alike ↦ rw alike ]
