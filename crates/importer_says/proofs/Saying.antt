-- Laws of what a line says, from what was seen of its fields.
use Prim.Native.Nat.{ℕ, zero, suc, ◌≤◌}
use native.Mathlib.Nat.{eq-or-lt_of_le}
use native.Mathlib.Omega.{arith}
use mathlib.Core.Path.{◌≡◌, refl, sym, ap, ◌∙◌}
use mathlib.Core.Logic.{◌≢◌, ⊎_elim}
use mathlib.Core.List.{List, [], ◌∷◌}
use mathlib.Core.Bool.{Bool, true, false, ◌&&◌}
use Rattle.std.specs.Prelude.{None, Some, length}
use Rattle.rules.specs.Lists.{all}
use borrow.Author.Tests.{lt-leb, le-leb}
use Rattle.rules.specs.Sizes.{counts}
use Rattle.rules.specs.Words.{same}
use Rattle.rules.specs.Kiss2.{Field, Says, is_comment, is_digit, is_number, is_name, is_cube, is_output, value, most_of, directive, fields_say, line_says}
use Rattle.importer_lines.specs.declared.Part.{Part}
use Rattle.importer_lines.specs.declared.Fields.{Fields}
use Rattle.importer_lines.specs.Parts.{part_at, bytes_at, FieldIn}
use Rattle.importer_lines.specs.Fields.{FieldsAt}
use Rattle.importer_says.specs.declared.Directive.{Directive}
use Rattle.importer_says.specs.declared.Directive.TheVariants.{Inputs, Outputs, Terms, States}
use Rattle.importer_says.specs.declared.Named.{Named}
use Rattle.importer_says.specs.declared.Named.TheVariants.{Number, Reset, Other}
use Rattle.importer_says.specs.declared.LineSaid.{LineSaid}
use Rattle.importer_says.specs.declared.LineSaid.TheVariants.{Skipped, Number as SaysNumber, Reset as SaysReset, Term as SaysTerm, End, Bad}
use Rattle.importer_says.specs.Directives.{name_of, reset_name, end_name, NamesNone, NamedAs}
use Rattle.importer_says.specs.Fields.{number_in}
use Rattle.importer_says.specs.Said.{SaidAs}
use Rattle.importer_says.proofs.Values.{number_counts, number_none, counts_bounds}

-- a test of the bytes f, which are the field g, came out so
pub seen : (test : Field → Bool) {f g : Field} {r t : Bool} → f ≡ g → r ≡ test f → r ≡ t → test g ≡ t
seen test here is came = ap test (sym here) ∙ sym is ∙ came

pub names_none : (field : Field) → same field (name_of Inputs) ≡ false → same field (name_of Outputs) ≡ false → same field (name_of Terms) ≡ false → same field (name_of States) ≡ false
    → same field reset_name ≡ false → NamesNone field
names_none field no_inputs no_outputs no_terms no_states no_reset =
    record { no_most = rw (no_inputs, no_outputs, no_terms, no_states); no_reset = no_reset }

-- no number counts where the most is 0
counts_none : (n : ℕ) → counts 0 n ≡ false
counts_none zero = refl
counts_none (suc n) = rw (le-leb 1 (suc n) (omega arith)) (lt-leb (suc n) 0 (omega arith))

no_number : (field : Field) → is_number 0 field ≡ false
no_number field = go (counts 9 (length field) && all is_digit field)
  where
    go : (t : Bool) → (t && counts 0 (value field)) ≡ false
    go true = counts_none (value field)
    go false = refl

no_reset_number : (d : Directive) → same (name_of d) reset_name ≡ false
no_reset_number Inputs = refl
no_reset_number Outputs = refl
no_reset_number Terms = refl
no_reset_number States = refl

-- a directive whose most was looked up, and the number, if any, of the field behind it
module _ (s : List ℕ) (d : Directive) (p : Part) {f : Field} (here : f ≡ bytes_at s p) where
  pub says_none : None ≡ number_in f → SaidAs s (directive (name_of d) (bytes_at s p)) Bad
  says_none none_there =
      let none_said : is_number (most_of (name_of d)) (bytes_at s p) ≡ false = number_none (most_of (name_of d)) (bytes_at s p) (rw here at none_there) in
      record { told = rw (none_said, no_reset_number d) }

  module _ {n most : ℕ} {r : Bool} (is : Some n ≡ number_in f) (looked_up : most ≡ most_of (name_of d)) (in_range : r ≡ counts most n) where
    tested : counts (most_of (name_of d)) n ≡ r
    tested = ap (λ (m : ℕ). counts m n) (sym looked_up) ∙ sym in_range

    told : (is_number (most_of (name_of d)) (bytes_at s p) ≡ counts (most_of (name_of d)) n) × (value (bytes_at s p) ≡ n)
    told = number_counts (most_of (name_of d)) (bytes_at s p) n (rw here at is)

    pub says_number : r ≡ true → SaidAs s (directive (name_of d) (bytes_at s p)) (SaysNumber d n)
    says_number good =
        let ranged : counts (most_of (name_of d)) n ≡ true = tested ∙ good in
        let a_number : is_number (most_of (name_of d)) (bytes_at s p) ≡ true = told.0 ∙ ranged in
        let bounds = counts_bounds (most_of (name_of d)) n ranged in
        record { told = record { said = rw (a_number, told.1); least = bounds.0; most = bounds.1 } }

    pub says_no_number : r ≡ false → SaidAs s (directive (name_of d) (bytes_at s p)) Bad
    says_no_number wrong =
        let none_said : is_number (most_of (name_of d)) (bytes_at s p) ≡ false = told.0 ∙ tested ∙ wrong in
        record { told = rw (none_said, no_reset_number d) }

module _ (s : List ℕ) (p : Part) where
  pub says_reset : FieldIn s p → is_name (bytes_at s p) ≡ true → SaidAs s (directive reset_name (bytes_at s p)) (SaysReset p)
  says_reset field_in is_a_name =
      record {
        told = record { said = rw (no_number (bytes_at s p), is_a_name); name = record { field_in = field_in; is_a_name = is_a_name } };
      }

  pub says_no_reset : is_name (bytes_at s p) ≡ false → SaidAs s (directive reset_name (bytes_at s p)) Bad
  says_no_reset other = record { told = rw (no_number (bytes_at s p), other) }

  pub says_end : same (bytes_at s p) end_name ≡ true → SaidAs s (fields_say (bytes_at s p) []) End
  says_end is = record { told = rw is }

  pub says_no_end : same (bytes_at s p) end_name ≡ false → SaidAs s (fields_say (bytes_at s p) []) Bad
  says_no_end other = record { told = rw other }

-- what the first of two fields names, of which r was answered
module _ (s : List ℕ) (p q : Part) {f : Field} {r : Named} (here : f ≡ bytes_at s p) (names : NamedAs f r) where
  pub names_number : {d : Directive} {x : LineSaid} → r ≡ Number d → SaidAs s (directive (name_of d) (bytes_at s q)) x → SaidAs s (directive (bytes_at s p) (bytes_at s q)) x
  names_number {d} is as_said =
      let name : f ≡ name_of d = rw is at names.told in
      let named : bytes_at s p ≡ name_of d = sym here ∙ name in
      rw named as_said

  pub names_reset : {x : LineSaid} → r ≡ Reset → SaidAs s (directive reset_name (bytes_at s q)) x → SaidAs s (directive (bytes_at s p) (bytes_at s q)) x
  names_reset is as_said =
      let name : f ≡ reset_name = rw is at names.told in
      let named : bytes_at s p ≡ reset_name = sym here ∙ name in
      rw named as_said

  pub names_other : r ≡ Other → SaidAs s (directive (bytes_at s p) (bytes_at s q)) Bad
  names_other is =
      let other : NamesNone f = rw is at names.told in
      let no_most : most_of (bytes_at s p) ≡ 0 = ap (λ (x : Field). most_of x) (sym here) ∙ other.no_most in
      let no_reset : same (bytes_at s p) reset_name ≡ false = ap (λ (x : Field). same x reset_name) (sym here) ∙ other.no_reset in
      record { told = rw (no_most, no_number (bytes_at s q), no_reset) }

-- four fields
module _ (s : List ℕ) (a b c d : Part) where
  abbrev four_say : Says
  four_say = fields_say (bytes_at s a) (bytes_at s b ∷ bytes_at s c ∷ bytes_at s d ∷ [])

  pub no_cube : is_cube (bytes_at s a) ≡ false → SaidAs s four_say Bad
  no_cube other = record { told = rw other }

  module _ (cube : is_cube (bytes_at s a) ≡ true) where
    pub no_current : is_name (bytes_at s b) ≡ false → SaidAs s four_say Bad
    no_current other = record { told = rw (cube, other) }

    module _ (current : is_name (bytes_at s b) ≡ true) where
      pub no_next : is_name (bytes_at s c) ≡ false → SaidAs s four_say Bad
      no_next other = record { told = rw (cube, current, other) }

      module _ (next : is_name (bytes_at s c) ≡ true) where
        pub no_output : is_output (bytes_at s d) ≡ false → SaidAs s four_say Bad
        no_output other = record { told = rw (cube, current, next, other) }

        pub says_term : FieldIn s a × FieldIn s b × FieldIn s c × FieldIn s d → is_output (bytes_at s d) ≡ true → SaidAs s four_say (SaysTerm a b c d)
        says_term inside output =
            record {
              told =
                  record {
                    said = rw (cube, current, next, output);
                    cube_in = inside.0;
                    is_a_cube = cube;
                    current = record { field_in = inside.1; is_a_name = current };
                    next = record { field_in = inside.2; is_a_name = next };
                    output_in = inside.3;
                    is_an_output = output;
                  };
            }

-- a line by the number of its fields
module _ {s : List ℕ} {from stop : ℕ} {r : Fields} (fields : FieldsAt s from stop r) where
  pub line_empty : r.count ≡ 0 → SaidAs s (line_says (part_at s from stop)) Skipped
  unfolding line_says
  line_empty n = record { told = rw (fields.no_fields n) }

  pub line_comment : 1 ≤ r.count → is_comment (bytes_at s r.a) ≡ true → SaidAs s (line_says (part_at s from stop)) Skipped
  unfolding line_says
  line_comment n comment = record { told = rw ((fields.some_first n).1, comment) }

  module _ (no_comment : is_comment (bytes_at s r.a) ≡ false) where
    pub line_end : {x : LineSaid} → r.count ≡ 1 → SaidAs s (fields_say (bytes_at s r.a) []) x → SaidAs s (line_says (part_at s from stop)) x
    unfolding line_says
    line_end n as_said = rw (fields.one n, no_comment) as_said

    pub line_directive : {x : LineSaid} → r.count ≡ 2 → SaidAs s (directive (bytes_at s r.a) (bytes_at s r.b)) x → SaidAs s (line_says (part_at s from stop)) x
    unfolding line_says
    line_directive n as_said = rw (fields.two n, no_comment) as_said

    pub line_term : {x : LineSaid} → r.count ≡ 4 → SaidAs s (four_say s r.a r.b r.c r.d) x → SaidAs s (line_says (part_at s from stop)) x
    unfolding line_says
    line_term n as_said = rw (fields.four n, no_comment) as_said

    pub line_bad : r.count ≢ 0 → r.count ≢ 1 → r.count ≢ 2 → r.count ≢ 4 → SaidAs s (line_says (part_at s from stop)) Bad
    unfolding line_says
    line_bad not_none not_one not_two not_four =
        let few : r.count ≤ 5 = fields.few in
        record {
          told =
              ⊎_elim
              (λ n. rw (fields.three (sym n), no_comment))
              (λ n. let five : r.count ≡ 5 = omega arith in rw ((fields.more five).2, no_comment))
              (eq-or-lt_of_le {n = 3} {m = r.count} (omega arith));
        }
