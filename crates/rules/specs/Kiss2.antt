-- Document 02, L2, "Read KISS2", by the grammar of docs/KISS2.md, whose rules are named here by their numbers: a text is lines, a line is
-- fields, a line says something, terms are opened, states are numbered. Order: 1 for the text; as met by line 19 and 20, 19 first on
-- one line; 19 behind the last line for what is lacking; 21; 17.
use Rattle.std.specs.Prelude.{ℕ, suc, ◌+◌, ◌*◌, ◌-◌, ◌^◌, Bool, true, false, cond, not, ◌&&◌, ◌||◌, eqb, leb, length, get_or}
use mathlib.Core.List.{List, [], ◌∷◌, ◌++◌, map, flat_map}
use Rattle.std.proofs.Math.Option.{Option, none, some}
use Rattle.rules.specs.declared.File.TheVariants.{Text}
use Rattle.rules.specs.declared.Fault.TheVariants.{TooLong}
use Rattle.rules.specs.declared.Refusal.TheVariants.{Malformed, BadLine, Contradiction, Incomplete}
use Rattle.rules.specs.declared.Imported.{Imported}
use Rattle.rules.specs.declared.Imported.TheVariants.{Written, Refused}
use Rattle.rules.specs.Lists.{numbers, any, all, first}
use Rattle.rules.specs.Sizes.{most_states, counts}
use Rattle.rules.specs.Words.{same}
use Rattle.rules.specs.Files.{UnitData, unit_bytes}
use Rattle.rules.specs.Needed.{distinct}
use Rattle.rules.specs.Answers.{unit_state, input_of}
use Rattle.rules.specs.Operations.{Outcome, fine, ◌>>=◌, ◌>>◌, answered, require, require_none, fits, overwritten}
use Rattle.rules.specs.Line.{text}

abbrev pub most_text_bytes : ℕ
most_text_bytes = 65535

-- a field of a line, a byte each
abbrev pub Field : Type 0
Field = List ℕ

-- a byte put before the first of several parts
abbrev pub longer : ℕ → List Field → List Field
longer b [] = (b ∷ []) ∷ []
longer b (part ∷ parts) = (b ∷ part) ∷ parts

-- Rule 1: a line feed ends a line, and the last line may lack it.
unfoldable pub lines_of : List ℕ → List (List ℕ)
lines_of [] = []
lines_of (b ∷ bytes) = cond (eqb b 10) ([] ∷ lines_of bytes) (longer b (lines_of bytes))

-- Rule 2: space, tab and carriage return separate fields.
abbrev pub is_gap : ℕ → Bool
is_gap b = eqb b 32 || eqb b 9 || eqb b 13

abbrev pub ends_field : List ℕ → Bool
ends_field [] = true
ends_field (b ∷ line) = is_gap b

unfoldable pub fields_of : List ℕ → List Field
fields_of [] = []
fields_of (b ∷ line) =
    cond (is_gap b) (fields_of line) (cond (ends_field line) ((b ∷ []) ∷ fields_of line) (longer b (fields_of line)))

-- Rule 3: a comment begins with #.
abbrev pub is_comment : Field → Bool
is_comment [] = false
is_comment (b ∷ field) = eqb b 35

-- Rule 5: 1 to 9 decimal digits.
abbrev pub is_digit : ℕ → Bool
is_digit b = leb 48 b && leb b 57

abbrev pub value_from : ℕ → Field → ℕ
value_from n [] = n
value_from n (b ∷ field) = value_from (10 * n + (b - 48)) field

abbrev pub value : Field → ℕ
value field = value_from 0 field

-- whether it is a number of 1 to `most`
abbrev pub is_number : ℕ → Field → Bool
is_number most field = counts 9 (length field) && all is_digit field && counts most (value field)

-- Rule 7: a name has 1 to 16 bytes of 21 to 7e hex.
abbrev pub is_name : Field → Bool
is_name field = counts 16 (length field) && all (λ b. leb 33 b && leb b 126) field

-- Rule 6: the bits of a cube and of an output. A dash stands for both bits.
abbrev pub is_bit : ℕ → Bool
is_bit b = eqb b 48 || eqb b 49

abbrev pub is_cube : Field → Bool
is_cube field = all (λ b. is_bit b || eqb b 45) field

abbrev pub is_output : Field → Bool
is_output field = all is_bit field

pub record Term : Type 0 where
  pub cube : Field
  pub current : Field
  pub next : Field
  pub output : Field

-- what a line says by itself: nothing, the number of a directive, the reset state, a term, the end, or what no line may say
pub data Says : Type 0 where
  skipped : Says
  number : Field → ℕ → Says
  reset : Field → Says
  term : Term → Says
  end : Says
  bad : Says

-- Rule 5: the most that a directive may say. A name that is none may say nothing.
abbrev pub most_of : Field → ℕ
most_of name =
    cond (same name (text ".i")) 4 (cond (same name (text ".o")) 8 (cond (same name (text ".p")) 999999999 (cond (same name (text ".s")) most_states 0)))

-- Rule 4
abbrev pub directive : Field → Field → Says
directive name field =
    cond (is_number (most_of name) field) (number name (value field)) (cond (same name (text ".r") && is_name field) (reset field) bad)

-- Rules 6, 8 and 13: by the number of fields, of which the first is no comment
abbrev pub fields_say : Field → List Field → Says
fields_say a [] = cond (same a (text ".e")) end bad
fields_say a (b ∷ []) = directive a b
fields_say a (b ∷ c ∷ []) = bad
fields_say a (b ∷ c ∷ d ∷ []) =
    cond (is_cube a && is_name b && is_name c && is_output d) (term (record { cube = a; current = b; next = c; output = d })) bad
fields_say a (b ∷ c ∷ d ∷ e ∷ fields) = bad

-- Rule 3
abbrev pub says_of : List Field → Says
says_of [] = skipped
says_of (a ∷ fields) = cond (is_comment a) skipped (fields_say a fields)

unfoldable pub line_says : List ℕ → Says
line_says line = says_of (fields_of line)

-- what a directive's number is, where that is what is said
abbrev pub number_of : Field → Says → List ℕ
number_of name skipped = []
number_of name (number other n) = cond (same name other) (n ∷ []) []
number_of name (reset state) = []
number_of name (term t) = []
number_of name end = []
number_of name bad = []

abbrev pub reset_of : Says → List Field
reset_of skipped = []
reset_of (number name n) = []
reset_of (reset state) = state ∷ []
reset_of (term t) = []
reset_of end = []
reset_of bad = []

abbrev pub term_of : Says → List Term
term_of skipped = []
term_of (number name n) = []
term_of (reset state) = []
term_of (term t) = t ∷ []
term_of end = []
term_of bad = []

abbrev pub is_end : Says → Bool
is_end skipped = false
is_end (number name n) = false
is_end (reset state) = false
is_end (term t) = false
is_end end = true
is_end bad = false

-- what several lines have said
abbrev pub numbers_in : Field → List Says → List ℕ
numbers_in name said = flat_map (number_of name) said

abbrev pub resets_in : List Says → List Field
resets_in said = flat_map reset_of said

abbrev pub terms_in : List Says → List Term
terms_in said = flat_map term_of said

abbrev pub ended : List Says → Bool
ended said = any is_end said

-- Rule 11: the states that they name, the reset state among them
abbrev pub names_in : List Says → List Field
names_in said = distinct (resets_in said ++ flat_map (λ t. t.current ∷ t.next ∷ []) (terms_in said))

abbrev pub is_empty : {A : Type 0} → List A → Bool
is_empty [] = true
is_empty (x ∷ l) = false

-- Rules 4, 6, 8, 9 and 11: whether a line may say this behind the lines before it
abbrev pub may_follow : List Says → Says → Bool
may_follow before skipped = true
may_follow before (number name n) = not (ended before) && is_empty (terms_in before) && is_empty (numbers_in name before)
may_follow before (reset state) = not (ended before) && is_empty (terms_in before) && is_empty (resets_in before)
may_follow before (term t) =
    not (ended before) && any (eqb (length t.cube)) (numbers_in (text ".i") before) && any (eqb (length t.output)) (numbers_in (text ".o") before)
    && all (leb (suc (length (terms_in before)))) (numbers_in (text ".p") before)
    && all (leb (length (names_in (before ++ (term t ∷ []))))) (most_states ∷ numbers_in (text ".s") before)
may_follow before end = not (ended before)
may_follow before bad = false

-- a bit, or both; the inputs of a cube, opened dash by dash, the leftmost bit being the highest
abbrev pub bits_of : ℕ → List ℕ
bits_of b = cond (eqb b 45) (0 ∷ 1 ∷ []) ((b - 48) ∷ [])

unfoldable pub opened : Field → List ℕ
opened [] = 0 ∷ []
opened (b ∷ cube) = flat_map (λ bit. map (λ i. bit * 2 ^ length cube + i) (opened cube)) (bits_of b)

-- the number of output bits, the leftmost being the highest
unfoldable pub output_value : Field → ℕ
output_value [] = 0
output_value (b ∷ bits) = (b - 48) * 2 ^ length bits + output_value bits

-- whether a term is about a state and an input
abbrev pub is_about : Field → ℕ → Term → Bool
is_about state i t = same t.current state && any (eqb i) (opened t.cube)

-- Rule 12: two terms differ on a state and an input
abbrev pub differ : Term → Term → Bool
differ t e =
    any (λ i. is_about t.current i e) (opened t.cube) && not (same t.next e.next && same t.output e.output)

abbrev pub contradicts : List Says → Says → Bool
contradicts before said = any (λ t. any (differ t) (terms_in before)) (term_of said)

-- all lines, from line n on, behind those before it: 19 and 20
unfoldable pub read_lines : ℕ → List Says → List (List ℕ) → Outcome (List Says)
read_lines n before [] = fine before
read_lines n before (line ∷ lines) = do
  require (may_follow before (line_says line)) (BadLine n)
  require (not (contradicts before (line_says line))) (Contradiction n)
  read_lines (suc n) (before ++ (line_says line ∷ [])) lines

-- Rules 9 and 10: the end, a term (and with it `.i` and `.o`), as many terms as `.p` says and as many states as `.s` says
unfoldable pub is_whole : List Says → Bool
is_whole said =
    ended said && not (is_empty (terms_in said)) && all (eqb (length (terms_in said))) (numbers_in (text ".p") said)
    && all (eqb (length (names_in said))) (numbers_in (text ".s") said)

-- The states in the order of their numbers: the reset state, which is the first term's current state where no `.r` names one; the
-- others as they first occur as a current state; then those that occur only as a next state.
unfoldable pub state_names : List Says → List Field
state_names said = distinct (resets_in said ++ map (λ t. t.current) (terms_in said) ++ map (λ t. t.next) (terms_in said))

-- a state's number
abbrev pub place_in : List Field → Field → ℕ
place_in [] name = 0
place_in (n ∷ names) name = cond (same n name) 0 (suc (place_in names name))

-- two to the power that `.i` says
abbrev pub inputs_in : List Says → ℕ
inputs_in said = 2 ^ get_or (numbers_in (text ".i") said) 0 0

-- the first term that is about a state and an input
abbrev pub term_for : List Says → Field → ℕ → Option Term
term_for said state i = first (is_about state i) (terms_in said)

abbrev pub entry_of : List Field → Option Term → ℕ × ℕ
entry_of names none = (0, 0)
entry_of names (some t) = (place_in names t.next, output_value t.output)

-- the states and inputs that no term is about, by their numbers
abbrev pub is_silent : Option Term → Bool
is_silent none = true
is_silent (some t) = false

abbrev pub grid : ℕ → ℕ → List (ℕ × ℕ)
grid n k = flat_map (λ q. map (λ i. (q, i)) (numbers k)) (numbers n)

unfoldable pub silent : List Says → Option (ℕ × ℕ)
silent said =
    first (λ (q, i). is_silent (term_for said (get_or (state_names said) q []) i)) (grid (length (state_names said)) (inputs_in said))

-- the unit that the terms say
unfoldable pub unit_said : List Says → UnitData
unit_said said =
    record {
      inputs = inputs_in said;
      states = length (state_names said);
      table = flat_map (λ state. map (λ i. entry_of (state_names said) (term_for said state i)) (numbers (inputs_in said))) (state_names said);
    }

-- what the import writes
unfoldable pub read_kiss2 : List ℕ → List ℕ → Outcome (List ℕ)
read_kiss2 bytes out = do
  require (leb (length bytes) most_text_bytes) (Malformed TooLong Text 0)
  said ← read_lines 1 [] (lines_of bytes)
  require (is_whole said) (BadLine (suc (length (lines_of bytes))))
  require_none (silent said) (λ (q, i). Incomplete (unit_state q) (input_of i))
  fits (unit_bytes (unit_said said)) out
  fine (unit_bytes (unit_said said))

abbrev pub read_kiss2_answer : List ℕ → List ℕ → Imported
read_kiss2_answer bytes out = answered (read_kiss2 bytes out) (λ unit. Written (length unit)) Refused

abbrev pub read_kiss2_output : List ℕ → List ℕ → List ℕ
read_kiss2_output bytes out = answered (read_kiss2 bytes out) (λ unit. overwritten unit out) (λ r. out)
