-- Where the fields of a term stand, and what naming and entering it come to.
use Rattle.std.specs.Prelude.{ℕ, ◌≡◌, List, [], ◌∷◌, ◌++◌, Bool, true, false, length, Option, None, Some, unwrap_or}
use Rattle.rules.specs.Lists.{any}
use Rattle.rules.specs.Kiss2.{Field, Term, Says, term, is_cube, is_output, names_in, may_follow, differ}
use Rattle.importer_lines.specs.Parts.{bytes_at, FieldIn}
use Rattle.importer_says.specs.Said.{NameIn}
use Rattle.importer_counts.specs.Counts.{CountsAt}
use Rattle.importer_names.specs.Names.{NamesAt}
use Rattle.importer_terms.specs.Entries.{EntriesAt, TermIn, TermOver}
use Rattle.importer_reading.specs.declared.TermParts.{TermParts}
use Rattle.importer_counts.specs.declared.Counts.{Counts}
use Rattle.importer_terms.specs.declared.NumberedTerm.{NumberedTerm}

-- the parts are fields of a term
pub record TermFields (s : List ℕ) (parts : TermParts) : Type 0 where
  pub cube_in : FieldIn s parts.cube
  pub is_cube : is_cube (bytes_at s parts.cube) ≡ true
  pub current : NameIn s parts.current
  pub next : NameIn s parts.next
  pub output_in : FieldIn s parts.output
  pub is_output : is_output (bytes_at s parts.output) ≡ true

abbrev pub term_at : List ℕ → TermParts → Term
term_at s parts =
    record { cube = bytes_at s parts.cube; current = bytes_at s parts.current; next = bytes_at s parts.next; output = bytes_at s parts.output }

-- a term that is named, with what was counted and how many names there are
abbrev pub NamedTerm : Type 0
NamedTerm = Counts × NumberedTerm × ℕ

-- what naming a term came to, behind the lines said `before`
abbrev pub NamedOf : List ℕ → List Says → Term → List ℕ → List ℕ → Option NamedTerm → Type 0
NamedOf s before t names lengths None = may_follow before (term t) ≡ false
NamedOf s before t names lengths (Some (y, x, all)) =
    (may_follow before (term t) ≡ true) × CountsAt (before ++ (term t ∷ [])) y × NamesAt names lengths (names_in (before ++ (term t ∷ [])))
    × (all ≡ length (names_in (before ++ (term t ∷ [])))) × TermOver s x (names_in (before ++ (term t ∷ []))) (unwrap_or y.output_bits 0) t

pub record NamedTermAs (s : List ℕ) (before : List Says) (t : Term) (names lengths : List ℕ) (r : Option NamedTerm) : Type 0 where
  pub told : NamedOf s before t names lengths r

-- a term that is named may be entered
abbrev pub ReadyOf : List ℕ → Option NamedTerm → Type 0
ReadyOf s None = Unit {0}
ReadyOf s (Some (y, x, all)) = TermIn s x

pub record Ready (s : List ℕ) (r : Option NamedTerm) : Type 0 where
  pub told : ReadyOf s r

-- what entering a term came to, where the tables held `terms`
abbrev pub EnteredOf : List ℕ → List ℕ → List Field → List Term → Term → Bool → Type 0
EnteredOf nexts outputs names terms t true = any (differ t) terms ≡ true
EnteredOf nexts outputs names terms t false = (any (differ t) terms ≡ false) × EntriesAt nexts outputs names (terms ++ (t ∷ []))

pub record EnteredAs (nexts outputs : List ℕ) (names : List Field) (terms : List Term) (t : Term) (r : Bool) : Type 0 where
  pub told : EnteredOf nexts outputs names terms t r
