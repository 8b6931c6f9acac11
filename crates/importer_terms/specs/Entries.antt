-- The entries that the terms so far say. Two tables hold them: the entry of the name number j and the input i stands at j * 16 + i.
use Rattle.std.specs.Prelude.{ℕ, suc, ◌+◌, ◌*◌, ◌≤◌, ◌<◌, ◌≡◌, List, Bool, true, not, ◌&&◌, eqb, length, get_or, replicate}
use Rattle.std.proofs.Math.Option.{Option, none, some}
use Rattle.rules.specs.Lists.{◌∈◌, any, first}
use Rattle.rules.specs.Sizes.{most_inputs, most_states}
use Rattle.rules.specs.Kiss2.{Field, Term, is_output, opened, output_value, is_about, place_in}
use Rattle.theory.specs.Lists.{Rising}
use Rattle.theory.specs.Kiss2Lines.{Differ}
use Rattle.importer_lines.specs.Parts.{bytes_at}
use Rattle.importer_terms.specs.declared.NumberedTerm.{NumberedTerm}
use Rattle.importer_terms.specs.Terms.{CubeIn}

-- a table of which nothing was written
unfoldable pub unsaid : List ℕ
unsaid = replicate 1024 0

abbrev pub entry_place : ℕ → ℕ → ℕ
entry_place j i = j * most_inputs + i

-- What the tables hold of an entry, by the first term that is about it: one more than the number of the next state's name, and the
-- output's value. Where no term is about it, they hold 0.
abbrev pub next_mark : List Field → Option Term → ℕ
next_mark names none = 0
next_mark names (some t) = suc (place_in names t.next)

abbrev pub output_mark : Option Term → ℕ
output_mark none = 0
output_mark (some t) = output_value t.output

-- the tables hold the entries that the terms say, of states that are among the names
pub record EntriesAt (nexts outputs : List ℕ) (names : List Field) (terms : List Term) : Type 0 where
  pub room : (length nexts ≡ 1024) × (length outputs ≡ 1024)
  pub next_at : (state : Field) → state ∈ names → (i : ℕ) → i < most_inputs
      → get_or nexts (entry_place (place_in names state) i) 0 ≡ next_mark names (first (is_about state i) terms)
  pub output_at : (state : Field) → state ∈ names → (i : ℕ) → i < most_inputs
      → get_or outputs (entry_place (place_in names state) i) 0 ≡ output_mark (first (is_about state i) terms)
  -- the numbers that no name has yet have no entries
  pub unused : (place : ℕ) → entry_place (length names) 0 ≤ place → (get_or nexts place 0 ≡ 0) × (get_or outputs place 0 ≡ 0)

-- What the lines that were read have made sure of their terms. So an entry's first term speaks for all that are about it.
pub record TermsOver (names : List Field) (bits : ℕ) (terms : List Term) : Type 0 where
  -- each line's two names were put among the names before its term was
  pub currents : (t : Term) → t ∈ terms → t.current ∈ names
  pub nexts : (t : Term) → t ∈ terms → t.next ∈ names
  -- the outputs are bits, as many as `.o` says, so that their values tell them apart
  pub outputs : (t : Term) → t ∈ terms → is_output t.output ≡ true
  pub long : (t : Term) → t ∈ terms → length t.output ≡ bits
  -- no term differs from an earlier one
  pub alike : Rising (λ e t. ¬ Differ t e) terms

-- what the program itself asks of a term
pub record TermIn (text : List ℕ) (x : NumberedTerm) : Type 0 where
  pub cube_in : CubeIn text x.cube
  -- the tables have room for as many names
  pub current : x.current < most_states
  pub next : x.next < most_states

-- x is the term t over the names
pub record TermOver (text : List ℕ) (x : NumberedTerm) (names : List Field) (bits : ℕ) (t : Term) : Type 0 where
  -- its cube stands in the text
  pub cube_is : t.cube ≡ bytes_at text x.cube
  -- its two names are among the names, with these numbers
  pub current_in : t.current ∈ names
  pub current_is : x.current ≡ place_in names t.current
  pub next_in : t.next ∈ names
  pub next_is : x.next ≡ place_in names t.next
  -- its output is as many bits as `.o` says, with this value
  pub is_output : is_output t.output ≡ true
  pub long : length t.output ≡ bits
  pub output_is : x.output ≡ output_value t.output

-- whether an entry, which holds `mark` and `value`, is there and says something else than a term
abbrev pub says_else : ℕ → ℕ → NumberedTerm → Bool
says_else mark value x = not (eqb mark 0) && not (eqb mark (x.next + 1) && eqb value x.output)

-- whether the cube has the input
abbrev pub has_input : List ℕ → NumberedTerm → ℕ → Bool
has_input text x i = any (eqb i) (opened (bytes_at text x.cube))

-- whether the cube has an input whose entry says something else
abbrev pub is_against : List ℕ → NumberedTerm → List ℕ → List ℕ → ℕ → Bool
is_against text x nexts outputs i =
    has_input text x i && says_else (get_or nexts (entry_place x.current i) 0) (get_or outputs (entry_place x.current i) 0) x

-- whether the cube has an input whose entry is not there yet
abbrev pub is_new : List ℕ → NumberedTerm → List ℕ → ℕ → Bool
is_new text x nexts i = has_input text x i && eqb (get_or nexts (entry_place x.current i) 0) 0
