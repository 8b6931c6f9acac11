-- What a line says, and what the program answers of it: the parts of the text at which the fields stand.
use Rattle.std.specs.Prelude.{ℕ, ◌≤◌, ◌≡◌, List, true}
use Rattle.rules.specs.Kiss2.{Says, skipped, number, reset, term, end, bad, is_name, is_cube, is_output, most_of}
use Rattle.importer_lines.specs.declared.Part.{Part}
use Rattle.importer_lines.specs.Parts.{bytes_at, FieldIn}
use Rattle.importer_says.specs.declared.Directive.{Directive}
use Rattle.importer_says.specs.declared.LineSaid.{LineSaid}
use Rattle.importer_says.specs.declared.LineSaid.TheVariants.{Skipped, Number, Reset, Term, End, Bad}
use Rattle.importer_says.specs.Directives.{name_of}

pub record NumberAs (says : Says) (d : Directive) (n : ℕ) : Type 0 where
  pub said : says ≡ number (name_of d) n
  pub least : 1 ≤ n
  pub most : n ≤ most_of (name_of d)

-- a part at which a name stands
pub record NameIn (s : List ℕ) (p : Part) : Type 0 where
  pub field_in : FieldIn s p
  pub is_a_name : is_name (bytes_at s p) ≡ true

pub record ResetAs (s : List ℕ) (says : Says) (p : Part) : Type 0 where
  pub said : says ≡ reset (bytes_at s p)
  pub name : NameIn s p

pub record TermAs (s : List ℕ) (says : Says) (a b c d : Part) : Type 0 where
  pub said : says ≡ term (record { cube = bytes_at s a; current = bytes_at s b; next = bytes_at s c; output = bytes_at s d })
  pub cube_in : FieldIn s a
  pub is_a_cube : is_cube (bytes_at s a) ≡ true
  pub current : NameIn s b
  pub next : NameIn s c
  pub output_in : FieldIn s d
  pub is_an_output : is_output (bytes_at s d) ≡ true

-- by the answer r
abbrev pub Answers : List ℕ → Says → LineSaid → Type 0
Answers s says Skipped = says ≡ skipped
Answers s says (Number d n) = NumberAs says d n
Answers s says (Reset p) = ResetAs s says p
Answers s says (Term a b c d) = TermAs s says a b c d
Answers s says End = says ≡ end
Answers s says Bad = says ≡ bad

-- the answer r tells what a line of the text s says
pub record SaidAs (s : List ℕ) (says : Says) (r : LineSaid) : Type 0 where
  pub told : Answers s says r

-- what a line says where the answer was this
module _ {s : List ℕ} {says : Says} {r : LineSaid} (as_said : SaidAs s says r) where
  pub said_skipped : r ≡ Skipped → says ≡ skipped
  said_skipped is = rw is at as_said.told

  pub said_number : {d : Directive} {n : ℕ} → r ≡ Number d n → NumberAs says d n
  said_number is = rw is at as_said.told

  pub said_reset : {p : Part} → r ≡ Reset p → ResetAs s says p
  said_reset is = rw is at as_said.told

  pub said_term : {a b c d : Part} → r ≡ Term a b c d → TermAs s says a b c d
  said_term is = rw is at as_said.told

  pub said_end : r ≡ End → says ≡ end
  said_end is = rw is at as_said.told

  pub said_bad : r ≡ Bad → says ≡ bad
  said_bad is = rw is at as_said.told
